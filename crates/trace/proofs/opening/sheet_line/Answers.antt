use Rattle.std.proofs.Common.{sym, refl, ◌∙◌, arith}
use Rattle.std.proofs.lemmas.List.{length-set, length-take, length-drop}
use Rattle.trace.specs.Opening.{sheet_line}
use Rattle.trace.proofs.Fields.{after_none, fields_more, fields_none}
use Rattle.trace.proofs.opening.sheet_line.Goals as goal

pub loop-i-init : goal.loop-i-init
unfolding sheet_line
loop-i-init c = (after_none (sheet_line c.args.text.now), refl, omega arith)

pub returns-in_err-value : goal.returns-in_err-value
returns-in_err-value c = rw c.from_residual.ensures (record {
  value = sym (fields_none c.args.text.now c.loop-i.place-items c.loop-i.i c.loop-i.read _ _ (omega arith) c.end_before.ensures c.in_err-value.ensures.value) ∙ c.loop-i.invariant.0;
  within = tt;
})

pub loop-i-preserved : goal.loop-i-preserved
loop-i-preserved c = (
  sym (fields_more c.args.text.now c.loop-i.place-items c.loop-i.i c.loop-i.read _ _ _ _ (omega arith) c.end_before.ensures c.in_ok-value.ensures.value) ∙ c.loop-i.invariant.0,
  simp length-set c.loop-i.invariant.1,
  omega (arith, simp (length-take, length-drop) at c.in_ok-value.ensures.within),
)
