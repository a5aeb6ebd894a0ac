use Rattle.recorder.proofs.Leading.{led_none}
use Rattle.recorder.proofs.keeping.RecorderDevice.switch_on.Goals as goal

pub invariant_of-self : goal.invariant_of-self
invariant_of-self g c = led_none (g.D.Device.meaning c.self.inside.below) _ _ c.switch_on.ensures.after c.emptied.ensures
