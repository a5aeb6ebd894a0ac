use Rattle.std.proofs.Common.{arith}
use Rattle.trace.proofs.Numbers.{bound_fits}
use Rattle.trace.proofs.digits.number.Goals as goal

pub overflow_mul-value : goal.overflow_mul-value
overflow_mul-value c = rw c.from.ensures (omega (arith, bound_fits _ _ _ c.requires.small c.loop-b.invariant.1 (omega arith)))

pub overflow_add-value : goal.overflow_add-value
overflow_add-value c = rw (c.from.ensures, c.from-in-loop-b.ensures) (omega (arith, bound_fits _ _ _ c.requires.small c.loop-b.invariant.1 (omega arith)))
