use Rattle.std.proofs.Common.{[], refl}
use Rattle.sequences.proofs.Gones.{gone_then, gone_is}
use Rattle.sequences.proofs.channel.Channel.select.Goals as goal

pub returns-clause-gone : goal.returns-clause-gone
returns-clause-gone g c =
    let u = c.open_row.ensures in
    let w = c.wait_until.ensures in
    gone_is _ (gone_then [] u.gone w.gone refl) u.gone.went.cells
