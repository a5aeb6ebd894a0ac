-- A whole text.
use Rattle.std.specs.Prelude.{◌≡◌, ℕ, List, length, drop, Ok}
use Rattle.std.specs.List.{slice_get}
use Rattle.rules.specs.declared.pins.Pins.{Pins}
use Rattle.sheet.specs.Admit.{numbers}
use Rattle.trace.specs.declared.text.Trace.{Trace}
use Rattle.trace.specs.Answer.{Reply, on, then}
use Rattle.trace.specs.Clock.{pins_of}
use Rattle.trace.specs.Opening.{start_of, IsEnd, heading_of}
use Rattle.trace.specs.Body.{piece, clocks, clocks_of}

-- the sheet's numbers, where the clock lines begin and how many there are, or the first reason against the text
abbrev pub lines_of : List ℕ → Reply (List ℕ × ℕ × ℕ)
lines_of bs = then (heading_of bs) (λ h. on (λ n. (h.0, h.1, n)) (on length (clocks_of (drop h.1 bs))))

-- the sheet's numbers and the pins at each clock, or the first reason against the text
abbrev pub trace_of : List ℕ → Reply (List ℕ × List Pins)
trace_of bs = then (heading_of bs) (λ h. on (λ ps. (h.0, ps)) (clocks_of (drop h.1 bs)))

abbrev pub traced : List ℕ → Trace → List ℕ × ℕ × ℕ
traced bs t = (numbers t.sheet, start_of bs t.body.now, length (clocks t.body.now))

-- what is known of a text that is read as t
pub record Well (bs : List ℕ) (t : Trace) : Type 0 where
  pub end : IsEnd bs t.body.now
  pub trace : trace_of bs ≡ Ok (numbers t.sheet, clocks t.body.now)
  -- each line gives the pins at its clock
  pub each : (k : ℕ) → pins_of (piece t.body.now k) ≡ slice_get (clocks t.body.now) k
