use Rattle.std.proofs.Common.{sym, ◌∙◌, arith}
use Rattle.std.proofs.lemmas.Result.{err_from_is_err_and}
use Rattle.verdict.proofs.Cased.{served, ill_line, few_lines, fitting}
use Rattle.verdict.proofs.examined.examine.Goals as goal

pub returns-in_err-clocks : goal.returns-in_err-clocks
returns-in_err-clocks c =
    let p = err_from_is_err_and c.from_residual-in_err-clocks.result c.from_residual-in_err-clocks.ensures.1 in
    let h = c.in_ok-sheet.ensures in
    rw (p.1, p.2)
    (ill_line _ _ _ _ _ _ c.in_ok-sheet.field-0.short h.value h.end
    (served _ _ _ c.check.ensures (sym c.is_err.ensures.value ∙ c.if-is_err.false))
    c.in_err-clocks.ensures.value)

pub overflow_mul-clocks : goal.overflow_mul-clocks
overflow_mul-clocks c = let l = c.in_ok-clocks.ensures.listed in omega (arith, few_lines c.in_ok-sheet.field-0.body.now c.in_ok-sheet.field-0.short l.0, l.1)

pub overflow_add-clocks : goal.overflow_add-clocks
overflow_add-clocks c = let l = c.in_ok-clocks.ensures.listed in omega (arith, few_lines c.in_ok-sheet.field-0.body.now c.in_ok-sheet.field-0.short l.0, l.1)

pub returns : goal.returns
returns c =
    let h = c.in_ok-sheet.ensures in
    fitting _ _ _ _ _ h.value h.end
    (served _ _ _ c.check.ensures (sym c.is_err.ensures.value ∙ c.if-is_err.false))
    c.in_ok-clocks.ensures.listed c.if-out-clocks.false
