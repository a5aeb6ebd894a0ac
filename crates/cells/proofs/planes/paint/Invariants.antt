use Rattle.std.proofs.Common.{◌≡◌}
use Rattle.cells.specs.Planes.{brushed}
use Rattle.cells.proofs.planes.paint.Given as goal

abbrev pub invariant-loop-i : goal.invariant-loop-i
invariant-loop-i l = l.bytes ≡ brushed l.at l.columns l.mask l.colour l.initial.bytes l.i
