-- What the program writes, from what the judge leaves.
use Rattle.std.proofs.Common.{◌≡◌, ℕ, ◌-◌, List, length, take, drop, IfOk, Ok, Err, Result, sym, ap, ◌∙◌}
use native.Mathlib.Nat.{sub-zero}
use Rattle.std.proofs.lemmas.List.{take_at}
use Rattle.trace.specs.Answer.{Reply}
use Rattle.verdict.specs.Judged.{Said, written, output_after}
use Rattle.console.specs.Refused.{refusal_text}
use Rattle.judge.specs.Answers.{reply_text}

-- the part of the buffer that was written
pub output_read : (j : Reply Said) (n : ℕ) (before after : List ℕ) → Ok n ≡ written j → after ≡ output_after j before → take (n - 0) (drop 0 after) ≡ reply_text j
output_read (Ok s) n before after e h =
    let same : n ≡ length s.output = cc in
    rw (sub-zero n, h) (take_at s.output (drop (length s.output) before) n (sym same))
output_read (Err x) n before after e h = cc

pub refusal_read : (j : Reply Said) (e : ℕ × List ℕ) → Err e ≡ written j → refusal_text e ≡ reply_text j
refusal_read (Ok s) e h = cc
refusal_read (Err x) e h = let same : e ≡ x = cc in ap refusal_text same

pub made_as : {X E Y : Type 0} (f : X → Y) (r : Result X E) (a b : Y) → IfOk r (λ v. f v ≡ a) → a ≡ b → IfOk r (λ v. f v ≡ b)
made_as f (Ok x) a b h e = h ∙ e
made_as f (Err x) a b h e = tt
