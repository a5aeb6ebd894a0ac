use Rattle.std.proofs.Common.{[], refl}
use Rattle.schedule.specs.After.{stored}
use Rattle.sequences.proofs.Gones.{gone_then, gone_is}
use Rattle.sequences.proofs.channel.Channel.give_at.Goals as goal

pub returns-clause-gone : goal.returns-clause-gone
returns-clause-gone g c =
    let k = c.args.command in
    let dq = c.args.dq in
    let w = c.wait_until.ensures in
    let u = c.give.ensures in
    gone_is _ (gone_then [] w.gone u.gone refl) (λ i. stored (w.gone.sheet i) (w.ledger i) dq k (w.gone.went.cells i))
