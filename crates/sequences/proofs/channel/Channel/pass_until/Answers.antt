use Rattle.std.proofs.Common.{◌≡◌, ◌<◌, min, [], refl, ap, ◌∙◌, subst, arith}
use Rattle.sequences.proofs.Gones.{gone_then, gone_is}
use Rattle.sequences.proofs.channel.Channel.pass_until.Goals as goal

pub loop-self-preserved : goal.loop-self-preserved
loop-self-preserved g c =
    let i = c.loop-self.invariant in
    let d = c.loop-self.self.ledger in
    let w = c.wait_until.ensures in
    let v = c.catch_up.ensures in
    let n = ap (λ x. x.clock) w.ledger in
    let next : c.min-next.result ≡ min d.due c.args.end = c.min-next.ensures ∙ ap (λ x. min x.ledger.due c.args.end) c.self.view_is in
    let early : d.clock < c.args.end = subst (λ x. x.ledger.clock < c.args.end) c.self.view_is c.loop-self-test.true in
    record {
      gone = gone_is _ (gone_then [] (gone_then [] i.gone w.gone refl) v.gone refl) (w.gone.went.cells ∙ i.gone.went.cells);
      idle_a = v.idle_a;
      idle_b = v.idle_b;
      fresh = v.fresh;
      few = omega (arith, v.few);
    }

pub returns-clause-gone : goal.returns-clause-gone
returns-clause-gone g c =
    let i = c.loop-self.invariant in
    let u = c.clear.ensures in
    gone_is _ (gone_then [] u.gone i.gone refl) u.gone.went.cells
