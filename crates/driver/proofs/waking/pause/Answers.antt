use Rattle.std.proofs.Common.{sym, ◌∙◌}
use Rattle.rules.specs.Meaning.{step}
use Rattle.rules.specs.Cases.{nop}
use Rattle.schedule.proofs.Chains.{run_more}
use Rattle.driver.proofs.waking.pause.Goals as goal

pub loop-i-preserved : goal.loop-i-preserved
loop-i-preserved g c =
    let i = c.loop-i.invariant in
    record {
      valid = c.clock.ensures.reachable;
      means = c.clock.ensures.after
          ∙ ((λ k. step (i.means k) (c.pins_for.ensures k)) ∙ sym (run_more c.loop-i._i (g.D.Device.meaning c.args.device.now) nop));
    }
