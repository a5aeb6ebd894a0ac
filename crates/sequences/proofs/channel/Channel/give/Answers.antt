use Rattle.std.proofs.Common.{[], sym, ap, ◌∙◌, subst, arith}
use Rattle.rules.specs.Meaning.{step}
use Rattle.schedule.specs.Obeyed.{Brings}
use Rattle.schedule.specs.After.{after, stored}
use Rattle.orders.proofs.Encoding.{encodes, data_is}
use Rattle.sequences.specs.Gone.{Gone}
use Rattle.sequences.proofs.Gones.{gone_one, stands_at, stands_of}
use Rattle.sequences.proofs.channel.Channel.give.Goals as goal

gone_here : (g : _) (c : goal.After-self-1 g) → Gone g.D.Device.reachable g.D.Device.meaning c.args.self.now (record { device = c.clock.new.self; sheet = c.self.inside.sheet; ledger = c.noted-self-inside.result }) []
    (stored c.args.self.now.sheet c.args.self.now.ledger c.args.dq c.args.command (g.D.Device.meaning c.args.self.now.device).cells)
gone_here g c =
    let k = c.args.command in
    let dq = c.args.dq in
    let p = c.pins_for.result in
    let e = c.pins_for.ensures in
    let v = c.self.view_is in
    gone_one c.args.self.now _ dq p k (stands_at v c.self.invariant) c.requires.timely c.requires.fit
    (subst (λ x. Brings x k) (sym e) (encodes k dq c.requires.encodable (omega arith))) c.requires.mute c.clock.ensures.reachable
    (c.clock.ensures.after ∙ (λ i. step (g.D.Device.meaning (v i).device) p)) (λ i. (v i).sheet) (ap (λ x. x.dq) e ∙ data_is k dq)
    (c.noted-self-inside.ensures ∙ (λ i. after (v i).sheet dq k (v i).ledger))

pub invariant_of-self : goal.invariant_of-self
invariant_of-self g c = stands_of (gone_here g c)

pub returns-clause-gone : goal.returns-clause-gone
returns-clause-gone g c = gone_here g c
