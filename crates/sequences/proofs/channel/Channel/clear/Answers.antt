use Rattle.std.proofs.Common.{[], refl}
use Rattle.sequences.proofs.Gones.{gone_then, gone_is}
use Rattle.sequences.proofs.channel.Channel.clear.Goals as goal

pub returns-clause-gone : goal.returns-clause-gone
returns-clause-gone g c =
    let u = c.close_both.ensures in
    let v = c.catch_up.ensures in
    gone_is _ (gone_then [] u.gone v.gone refl) u.gone.went.cells
