use Rattle.speed.proofs.rounds.play.Given as goal

abbrev pub invariant-loop-p : goal.invariant-loop-p
invariant-loop-p g l = g.D.Device.reachable l.device
