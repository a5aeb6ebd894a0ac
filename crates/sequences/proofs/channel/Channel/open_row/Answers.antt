use Rattle.std.proofs.Common.{[], refl}
use Rattle.sequences.proofs.Gones.{gone_then, gone_is}
use Rattle.sequences.proofs.channel.Channel.open_row.Goals as goal

pub returns-in-Some-2-clause-gone : goal.returns-in-Some-2-clause-gone
returns-in-Some-2-clause-gone g c =
    let u = c.close_row.ensures in
    let v = c.activate-in-Some-2.ensures in
    gone_is _ (gone_then [] u.gone v.gone refl) u.gone.went.cells
