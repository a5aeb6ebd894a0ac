-- What the judge says of a text.
use Rattle.std.specs.Prelude.{◌≡◌, ℕ, ◌+◌, ◌*◌, ◌^◌, ◌<◌, ◌≤◌, cond, List, ◌++◌, length, drop, replicate, Ok, Err, nat_le, slice_index, slice_index_or}
use Rattle.sheet.specs.declared.sheet.Sheet.{Sheet}
use Rattle.rules.specs.declared.pins.Pins.{Pins}
use Rattle.rules.specs.State.{switched_on}
use Rattle.rules.specs.Meaning.{Meaning, run}
use Rattle.cells.specs.Planes.{picture}
use Rattle.trace.specs.declared.refusal.Refusal.{Refusal}
use Rattle.trace.specs.declared.refusal.Refusal.TheVariants.{ShortMemory, ShortOutput}
use Rattle.trace.specs.declared.text.Trace.{Trace}
use Rattle.trace.specs.Answer.{Reply, answer, on, then}
use Rattle.trace.specs.Opening.{IsEnd, heading_of}
use Rattle.trace.specs.Body.{clocks, clocks_of}
use Rattle.verdict.specs.Sheets.{sheet_of}
use Rattle.verdict.specs.Page.{page}

-- refused unless there is as much as is needed
abbrev pub room : Refusal → ℕ → ℕ → Reply (Unit {0})
room e needed given = cond (nat_le needed given) (Ok tt) (Err (answer e))

-- the bytes of planes that so many rows need, and the most bytes that are written of so many clocks
abbrev pub planes_for : ℕ → ℕ
planes_for rows = 2048 * rows

abbrev pub output_for : ℕ → ℕ
output_for clocks = 16 * clocks + 64

-- a text that is judged: its sheet and the pins at each clock
pub record Case : Type 0 where
  pub sheet : Sheet
  pub clocks : List Pins

-- the case of a text, with so many bytes of planes and of output, or the first reason against it
abbrev pub case_of : List ℕ → ℕ → ℕ → Reply Case
case_of text planes out =
    then (heading_of text) (λ h.
    then (room ShortMemory (planes_for (slice_index h.0 1)) planes) (λ _.
    then (clocks_of (drop h.1 text)) (λ ps.
    on (λ _. record { sheet = sheet_of h.0; clocks = ps }) (room ShortOutput (output_for (length ps)) out))))

-- a device just switched on, its cells all zero
abbrev pub start : Sheet → Meaning
start sheet = record { state = switched_on sheet; words = replicate sheet.cl 0; cells = λ a. 0 }

-- what is said of a case: the output, and the device at the end
pub record Said : Type 0 where
  pub output : List ℕ
  pub meaning : Meaning

abbrev pub said : Case → Said
said k = record { output = page (start k.sheet) k.clocks; meaning = run (start k.sheet) k.clocks }

-- the judge
abbrev pub judged : List ℕ → ℕ → ℕ → Reply Said
judged text planes out = on said (case_of text planes out)

-- with these planes and this output
abbrev pub judged_in : List ℕ → List ℕ → List ℕ → Reply Said
judged_in text planes out = judged text (length planes) (length out)

-- both buffers afterwards; a refusal leaves them
abbrev pub planes_after : Reply Said → List ℕ → List ℕ
planes_after (Ok s) before =
    let rows : ℕ = s.meaning.state.sheet.rows in
    picture rows s.meaning.cells ++ drop (planes_for rows) before
planes_after (Err e) before = before

abbrev pub output_after : Reply Said → List ℕ → List ℕ
output_after (Ok s) before = s.output ++ drop (length s.output) before
output_after (Err e) before = before

-- how many bytes are written
abbrev pub written : Reply Said → Reply ℕ
written r = on (λ s. length s.output) r

-- what is known of a text that is judged as t
pub record Fit (text : List ℕ) (planes out : ℕ) (t : Trace) : Type 0 where
  pub end : IsEnd text t.body.now
  pub case : case_of text planes out ≡ Ok (record { sheet = t.sheet; clocks = clocks t.body.now })
  pub rows : planes_for t.sheet.rows ≤ planes
  pub room : output_for (length (clocks t.body.now)) ≤ out

-- and of one that is refused; the place or line is small
pub record Unfit (text : List ℕ) (planes out : ℕ) (e : Refusal) : Type 0 where
  pub case : case_of text planes out ≡ Err (answer e)
  pub place : slice_index_or (answer e).1 0 0 < 2 ^ 32
