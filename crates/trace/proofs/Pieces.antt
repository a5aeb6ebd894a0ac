-- The pieces of a body, and the first that is ill-formed.
use Rattle.std.proofs.Common.{◌≡◌, ℕ, suc, ◌+◌, ◌/◌, ◌<◌, ◌≤◌, min, Bool, cond, List, [], ◌∷◌, ◌++◌, length, take, drop, is_none, Some, None, Ok, Err, Option, sym, refl, ap, ◌∙◌, inl, inr, arith}
use Rattle.std.specs.List.{position_from}
use Rattle.std.specs.Slice.Iter.{chunks_rest, chunks_size, chunks_steps}
use Rattle.std.specs.declared.slice.Chunks.{Chunks}
use Rattle.std.specs.Borrow.{Bor}
use Rattle.std.proofs.lemmas.List.{length-append, append-nil, take_at, take_all, drop_at, drop_all, nil_from_length}
use Rattle.std.proofs.lemmas.Bool.{cases_lt}
use Rattle.std.proofs.lemmas.Iterator.{YieldsList}
use Rattle.std.proofs.lemmas.Iterator.Splits.{YieldsList-from_shown_while}
use Rattle.rules.specs.declared.pins.Pins.{Pins}
use Rattle.trace.specs.declared.refusal.Refusal.TheVariants.{IllFormedLine}
use Rattle.trace.specs.Answer.{Reply, answer, on}
use Rattle.trace.specs.Clock.{pins_of}
use Rattle.trace.specs.Body.{pieces, joined, read, listed, clocks, clocks_of}
use Rattle.trace.proofs.Left.{clock_bytes}

-- a piece, and the bytes behind it
pieces_more : (bs line rest : List ℕ) → bs ≡ line ++ rest → length line ≡ min 21 (length bs) → 0 < length bs → pieces bs ≡ line ∷ pieces rest
pieces_more bs line rest e l some =
    let all : length bs ≡ length line + length rest = ap length e ∙ length-append line rest in
    let k : (length bs + 20) / 21 ≡ suc ((length rest + 20) / 21) = omega (arith, l) in
    elim (cases_lt (length bs) 21) [
      | inl short ↦
          let none : rest ≡ [] = nil_from_length rest (omega (arith, l)) in
          let most : length bs ≤ 21 = omega arith in
          let t : take 21 bs ≡ line = take_all 21 bs most ∙ e ∙ ap (λ (x : List ℕ). line ++ x) none ∙ append-nil line in
          let d : drop 21 bs ≡ rest = drop_all 21 bs most ∙ sym none in
          rw (k, t, d) refl
      | inr long ↦
          let n : length line ≡ 21 = omega (arith, l) in
          let t : take 21 bs ≡ line = rw e (take_at line rest 21 n) in
          let d : drop 21 bs ≡ rest = rw e (drop_at line rest 21 n) in
          rw (k, t, d) refl
    ]

-- the pieces that `chunks` gives
pub chunked : (s : Chunks ℕ) → chunks_size s ≡ 21 → YieldsList (chunks_steps {A = ℕ}) (λ x. x.now) s (pieces (chunks_rest s))
chunked s size = YieldsList-from_shown_while chunks_steps (λ (x : Bor (List ℕ)). x.now) (λ t. pieces (chunks_rest t)) (λ t. chunks_size t ≡ 21)
    (λ u t k h. rw (nil_from_length (chunks_rest u) h.1.0) refl)
    (λ u x t k h. (h.0 ∙ k, pieces_more (chunks_rest u) x.now (chunks_rest t) h.1.0 (h.1.1 ∙ ap (λ (n : ℕ). min n (length (chunks_rest u))) k) h.1.2))
    s size

-- whether a line is ill-formed
abbrev pub ill : List ℕ → Bool
ill line = is_none (pins_of line)

-- how many lines there are, or the first of them that is ill-formed, by its place among them
abbrev pub seen : ℕ → Option ℕ → Reply ℕ
seen all None = Ok all
seen all (Some k) = Err (answer (IllFormedLine (k + 2)))

one : (p : Pins) (all : ℕ) (o : Option ℕ) (r : Reply (List Pins)) → on length r ≡ seen all o → on length (on (λ ps. p ∷ ps) r) ≡ seen (suc all) o
one p all None (Ok ps) e = let l : length ps ≡ all = cc in ap (λ (n : ℕ). Ok (suc n)) l
one p all None (Err x) e = cc
one p all (Some k) (Ok ps) e = cc
one p all (Some k) (Err x) e = e

step : (i : ℕ) (o : Option Pins) (all : ℕ) (more : Option ℕ) (r : Reply (List Pins)) → on length r ≡ seen all more → on length (joined (i + 2) o r) ≡ seen (suc all) (cond (is_none o) (Some i) more)
step i None all more r e = refl
step i (Some p) all more r e = one p all more r e

read_seen : (i : ℕ) (lines : List (List ℕ)) → on length (read (i + 2) lines) ≡ seen (length lines) (position_from ill i lines)
read_seen i [] = refl
read_seen i (line ∷ more) =
    let e : i + 1 + 2 ≡ i + 2 + 1 = omega arith in
    step i (pins_of line) (length more) (position_from ill (i + 1) more) (read (i + 2 + 1) more) (rw (← e) (read_seen (i + 1) more))

pub clocks_seen : (bs : List ℕ) → on length (clocks_of bs) ≡ seen (length (pieces bs)) (position_from ill 0 (pieces bs))
clocks_seen bs = read_seen 0 (pieces bs)

whole : (n : ℕ) (r : Reply (List Pins)) → on length r ≡ Ok n → r ≡ Ok (listed r)
whole n (Ok ps) e = refl
whole n (Err x) e = cc

-- a body whose lines are counted is well-formed
pub whole_body : (bs : List ℕ) (n : ℕ) → on length (clocks_of bs) ≡ Ok n → (clocks_of bs ≡ Ok (clocks bs)) × (length (clocks bs) ≡ length bs / 21) × (Ok (length bs / 21) ≡ on length (clocks_of bs))
whole_body bs n e =
    let r : clocks_of bs ≡ Ok (clocks bs) = whole n (clocks_of bs) e in
    let l : length (clocks bs) ≡ length bs / 21 = omega (arith, clock_bytes bs (clocks bs) r) in
    (r, l, sym (ap (on length) r ∙ ap Ok l))
