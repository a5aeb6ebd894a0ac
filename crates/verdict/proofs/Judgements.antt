-- The answer, the planes and the output after a text.
use Rattle.std.proofs.Common.{◌≡◌, ℕ, ◌*◌, List, ◌++◌, drop, Ok, Err, sym, refl, ap, ◌∙◌}
use Rattle.sheet.specs.declared.sheet.Sheet.{Sheet}
use Rattle.rules.specs.Meaning.{Meaning, run}
use Rattle.rules.proofs.Runs.{run_sheet}
use Rattle.cells.specs.Planes.{picture}
use Rattle.trace.specs.declared.text.Trace.{Trace}
use Rattle.trace.specs.declared.refusal.Refusal.{Refusal}
use Rattle.trace.specs.Answer.{answer}
use Rattle.trace.specs.Body.{clocks}
use Rattle.verdict.specs.Wrote.{Wrote}
use Rattle.verdict.specs.Page.{page}
use Rattle.verdict.specs.Judged.{judged, written, planes_after, output_after, start, Fit, Unfit}
use Rattle.verdict.proofs.Joins.{wrote_all}

pub refused : (text : List ℕ) (p o : ℕ) (e : Refusal) (planes out : List ℕ) → Unfit text p o e
    → (Err (answer e) ≡ written (judged text p o)) × (planes ≡ planes_after (judged text p o) planes) × (out ≡ output_after (judged text p o) out)
refused text p o e planes out f = rw f.case (refl, refl, refl)

pub spoken : (text : List ℕ) (p o : ℕ) (t : Trace) (planes planes' out out' : List ℕ) (r : ℕ) → Fit text p o t
    → Wrote out 0 (page (start t.sheet) (clocks t.body.now)) out' r
    → planes' ≡ picture t.sheet.rows (run (start t.sheet) (clocks t.body.now)).cells ++ drop (2048 * t.sheet.rows) planes
    → (Ok r ≡ written (judged text p o)) × (planes' ≡ planes_after (judged text p o) planes) × (out' ≡ output_after (judged text p o) out)
spoken text p o t planes planes' out out' r f w e =
    let all = wrote_all w in
    let m : Meaning = run (start t.sheet) (clocks t.body.now) in
    let rows : t.sheet.rows ≡ m.state.sheet.rows = sym (ap (λ (x : Sheet). x.rows) (run_sheet (start t.sheet) (clocks t.body.now))) in
    rw f.case (
      ap Ok all.0,
      e ∙ ap (λ (n : ℕ). picture n m.cells ++ drop (2048 * n) planes) rows,
      all.1,
    )
