use Rattle.std.proofs.Common.{sym, subst}
use Rattle.std.specs.Result.{result_ok}
use Rattle.recorder.specs.Kept.{Kept}
use Rattle.recorder.proofs.Leading.{kept_more}
use Rattle.recorder.proofs.keeping.RecorderDevice.clock.Goals as goal

pub invariant_of-self : goal.invariant_of-self
invariant_of-self g c =
    let k = subst (λ z. Kept (g.D.Device.meaning c.self.inside.below) (result_ok z)) (sym c.replace-kept.ensures.value) c.self.invariant in
    kept_more _ _ c.args.pins (result_ok c.replace-kept.result) (result_ok c.extended.result) k c.extended.ensures c.clock.ensures.after
