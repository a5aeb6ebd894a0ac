use Rattle.std.proofs.Common.{◌≡◌, replicate}
use Rattle.rules.specs.Meaning.{run}
use Rattle.rules.specs.Cases.{nop}
use Rattle.driver.proofs.waking.pause.Given as goal

abbrev pub invariant-loop-i : goal.invariant-loop-i
invariant-loop-i g l = record {
  valid : g.D.Device.reachable l.device;
  means : g.D.Device.meaning l.device ≡ run (g.D.Device.meaning l.initial.device) (replicate l._i nop);
}
