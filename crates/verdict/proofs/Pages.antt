-- The page of a run.
use Rattle.std.proofs.Common.{◌≡◌, ℕ, ◌+◌, ◌<◌, List, ◌∷◌, ◌++◌, length, IfSome, Some, None, Option, sym, ap, ◌∙◌, arith, length-append}
use Rattle.rules.specs.declared.pins.Pins.{Pins}
use Rattle.rules.specs.declared.fault.Fault.{Fault}
use Rattle.rules.specs.declared.state.OpenRow.{OpenRow}
use Rattle.rules.specs.Meaning.{Meaning, run, outs}
use Rattle.rules.specs.Laws.{Broken}
use Rattle.rules.proofs.Runs.{first_fault}
use Rattle.verdict.specs.Page.{clocks_text, end_text, page}

-- a fault is at a clock of the trace
pub fault_early : (m : Meaning) (ps : List Pins) (f : Option Fault) → m.state.fault ≡ None → m.state.clock ≡ 0 → length ps < 9999 → f ≡ (run m ps).state.fault
    → IfSome f (λ x. x.clock < 10000)
fault_early m ps None sound zeroth few e = tt
fault_early m ps (Some x) sound zeroth few e =
    let b : Broken m ps x = first_fault m ps x sound (sym e) in
    let long : length ps ≡ length b.before + length (b.at ∷ b.after) = ap length b.parts ∙ length-append b.before (b.at ∷ b.after) in
    omega (arith, b.clock, long)

-- the parts of the page, n being the device at the end
pub page_made : (m n : Meaning) (ps : List Pins) (a b : Option OpenRow) (count : ℕ) (f : Option Fault) → n ≡ run m ps
    → a ≡ n.state.banks.a.row → b ≡ n.state.banks.b.row → length ps ≡ count → f ≡ n.state.fault
    → clocks_text 1 (outs m ps) ++ end_text a b count f ≡ page m ps
page_made m n ps a b count f e ea eb ec ef =
    let pa : a ≡ (run m ps).state.banks.a.row = ea ∙ ap (λ (x : Meaning). x.state.banks.a.row) e in
    let pb : b ≡ (run m ps).state.banks.b.row = eb ∙ ap (λ (x : Meaning). x.state.banks.b.row) e in
    let pf : f ≡ (run m ps).state.fault = ef ∙ ap (λ (x : Meaning). x.state.fault) e in
    λ i. clocks_text 1 (outs m ps) ++ end_text (pa i) (pb i) (sym ec i) (pf i)
