-- What the program writes for a text.
use Rattle.std.specs.Prelude.{ℕ, List, Ok, Err}
use Rattle.trace.specs.Answer.{Reply}
use Rattle.verdict.specs.Judged.{Said, judged}
use Rattle.console.specs.Refused.{refusal_text}

-- the output, or the line of the refusal
abbrev pub reply_text : Reply Said → List ℕ
reply_text (Ok s) = s.output
reply_text (Err e) = refusal_text e

-- with 32 rows of planes, and output for 3,121 clocks
abbrev pub answer_to : List ℕ → List ℕ
answer_to text = reply_text (judged text 65536 50000)
