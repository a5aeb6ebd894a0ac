use Rattle.std.proofs.Common.{sym, refl}
use Rattle.interlock.proofs.Ran.{ran_all, ran_agree}
use Rattle.interlock.proofs.agreement.run_both.Goals as goal

pub returns : goal.returns
returns g c =
    let m = g.D.Device.meaning c.args.d.now in
    let n = g.E.Device.meaning c.args.e.now in
    let w = ran_all m n _ _ _ _ c.args.pins.now c.loop-p.p-index c.loop-p.agreed c.switch_on.ensures.after c.switch_on-2.ensures.after c.loop-p-test.false c.loop-p.invariant.2 in
    record {
      first = sym w.first;
      first_reachable = c.loop-p.invariant.0;
      second = sym w.second;
      second_reachable = c.loop-p.invariant.1;
      same = λ t. w.holds t refl;
      told = λ e. (w.tells e).0;
      agree = ran_agree m n _ _ c.args.pins.now c.loop-p.agreed w;
    }
