use Rattle.std.proofs.Common.{[], refl}
use Rattle.sequences.proofs.Gones.{gone_then, gone_is}
use Rattle.drawing.proofs.aiming.aim.Goals as goal

pub returns-clause-gone : goal.returns-clause-gone
returns-clause-gone g c =
    let u = c.select.ensures in
    gone_is _ (gone_then [] u.gone c.wait_until-2.ensures.gone refl) u.gone.went.cells
