use Rattle.std.proofs.Common.{rules}
use Rattle.device.proofs.Fits.{run_more, kept_on}
use Rattle.device.proofs.cell_device.CellDevice.play.Goals as goal

pub loop-p-preserved : goal.loop-p-preserved
loop-p-preserved g c =
    let i = c.loop-p.invariant in
    record {
      ran = run_more _ _ _ c.args.pins.now c.loop-p.p-index c.loop-p-test.true i.ran (search rules);
      kept = kept_on _ _ _ i.kept (search rules);
    }
