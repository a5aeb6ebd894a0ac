use Rattle.std.proofs.Common.{inl, arith}
use Rattle.device.proofs.Fits.{kept_on}
use Rattle.verdict.proofs.Turns.{far_more}
use Rattle.verdict.proofs.clocking.clock_through.Goals as goal

pub loop-k-preserved : goal.loop-k-preserved
loop-k-preserved c =
    let t = c.tick-lanes.ensures in
    let i = c.loop-k.invariant in
    let s = c.in-Some.ensures.steps in
    let w : _ = rw s.1 at c.clock.ensures.writes in
    let far = far_more _ _ _ _ _ _ i.far s.0 s.2 t.after t.answer w c.clock.ensures.bound in
    record {
      can_next = (tt, tt, inl (omega (arith, far.count)));
      is_finite = tt;
      far = far;
      kept = kept_on _ _ _ i.kept t.kept;
    }
