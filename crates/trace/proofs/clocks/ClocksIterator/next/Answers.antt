use Rattle.std.proofs.Common.{sym}
use Rattle.trace.proofs.Left.{Steps, clock_more, next_gives, next_goes}
use Rattle.trace.proofs.clocks.ClocksIterator.next.Goals as goal
use Rattle.trace.proofs.clocks.ClocksIterator.next.Goals.{After-clock_line}

on : (c : After-clock_line) → Steps c.self.inside.rest.now c.in_ok-line.line.now c.in_ok-line.rest.now
on c = clock_more _ _ _ c.self.invariant c.in_ok-line.ensures.cases

pub invariant_of-self : goal.invariant_of-self
invariant_of-self c = (on c).read

pub returns-clause-steps : goal.returns-clause-steps
returns-clause-steps c = next_gives _ _ (on c) (sym c.self.view_is) c.clock_line.ensures

pub returns-clause-goes : goal.returns-clause-goes
returns-clause-goes c = next_goes _ _ (on c) (sym c.self.view_is) c.clock_line.ensures
