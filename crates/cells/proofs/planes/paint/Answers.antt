use Rattle.std.proofs.Common.{refl, ◌∙◌, rules}
use Rattle.cells.specs.Planes.{brushed}
use Rattle.cells.proofs.Planed.{brushed_more, brush_byte}
use Rattle.cells.proofs.planes.paint.Goals as goal

pub loop-i-init : goal.loop-i-init
unfolding brushed
loop-i-init c = refl

pub overflow_cast-bytes : goal.overflow_cast-bytes
overflow_cast-bytes c = record {
  fits = brush_byte c.args.columns c.args.mask c.args.colour c.loop-i.i c.from-old.result c.merged.result (search rules)
      (c.merged.ensures ∙ simp (c.reached.ensures, c.inked.ensures));
}

pub loop-i-preserved : goal.loop-i-preserved
loop-i-preserved c =
    brushed_more c.args.at c.args.columns c.args.mask c.args.colour _ _ c.loop-i.i _ c.loop-i.invariant
    (c.merged.ensures ∙ simp (c.reached.ensures, c.inked.ensures, c.from-old.ensures))
