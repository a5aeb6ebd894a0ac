use Rattle.std.proofs.Common.{drop}
use Rattle.interlock.proofs.Ran.{Ran}
use Rattle.interlock.proofs.agreement.run_both.Given as goal

-- both are where the clocks so far have led
abbrev pub invariant-loop-p : goal.invariant-loop-p
invariant-loop-p g l =
    g.D.Device.reachable l.d × g.E.Device.reachable l.e
    × Ran (g.D.Device.meaning l.initial.d) (g.E.Device.meaning l.initial.e) (g.D.Device.meaning l.d) (g.E.Device.meaning l.e) l.pins (drop l.p-index l.pins) l.agreed
