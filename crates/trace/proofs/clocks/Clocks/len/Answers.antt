use Rattle.std.proofs.Common.{arith}
use Rattle.trace.proofs.Left.{clock_bytes}
use Rattle.trace.proofs.clocks.Clocks.len.Goals as goal

pub returns : goal.returns
returns c = rw (← c.self.view_is) (omega (arith, clock_bytes c.self.inside.rest.now _ c.self.invariant))
