use Rattle.driver.specs.Devices.{device_of, channel_of}
use Rattle.driver.specs.States.{Rest}
use Rattle.service.proofs.Lists.{SoFar}
use Rattle.service.proofs.serving.serve.Given as goal

abbrev pub invariant-loop-job : goal.invariant-loop-job
invariant-loop-job g l =
    let m = g.D.Device.meaning in
    record {
      rest : Rest g.D.Device.reachable m (channel_of l.driver);
      served : SoFar (m (device_of l.initial.driver)) (m (device_of l.driver)) l.initial.jobs l.jobs l.job-index;
    }
