use Rattle.std.proofs.Common.{◌≡◌, ◌+◌, [], sym, refl, ap, ◌∙◌, arith}
use Rattle.schedule.specs.Stretch.{at_clock}
use Rattle.sequences.proofs.Gones.{gone_then, gone_is}
use Rattle.sequences.proofs.channel.Channel.wait_until.Goals as goal

pub loop-next-preserved : goal.loop-next-preserved
loop-next-preserved g c =
    let i = c.loop-next.invariant in
    let u = c.give.ensures in
    let here : c.give.new.self.ledger.clock ≡ c.loop-next.self.ledger.clock + 1 = ap (λ x. x.clock) u.ledger in
    record {
      gone = gone_is _ (gone_then [] i.gone u.gone refl) i.gone.went.cells;
      ledger = u.ledger ∙ ((λ n. at_clock ((i.ledger n).clock + 1) (i.ledger n)) ∙ ap (λ x. at_clock x c.args.self.now.ledger) (sym here));
      most = omega (arith, i.here, c.loop-next-test.true);
      here = omega arith;
    }
