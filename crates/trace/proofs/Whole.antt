-- A text, from its heading and its clock lines.
use Rattle.std.proofs.Common.{◌≡◌, ℕ, List, length, Ok, refl}
use Rattle.sheet.specs.Admit.{numbers}
use Rattle.trace.specs.Opening.{start_of, IsEnd, heading_of}
use Rattle.trace.specs.Body.{clocks, clocks_of}
use Rattle.trace.specs.declared.text.Trace.{Trace}
use Rattle.trace.specs.Text.{lines_of, Well}
use Rattle.trace.proofs.Nth.{clocks_nth}

pub lines_ok : (text body ns : List ℕ) → Ok (ns, start_of text body) ≡ heading_of text → IsEnd text body → clocks_of body ≡ Ok (clocks body) → Ok (ns, start_of text body, length (clocks body)) ≡ lines_of text
lines_ok text body ns h end l = rw (← h, ← end, l) refl

pub lines_well : (text : List ℕ) (t : Trace) → Ok (numbers t.sheet, start_of text t.body.now) ≡ heading_of text → IsEnd text t.body.now → Well text t
lines_well text t h end = record {
  end = end;
  trace = rw (← h, ← end, t.read) refl;
  each = λ k. clocks_nth t.body.now k _ t.read;
}
