use Rattle.cells.proofs.Told.{all_bytes, all_told}
use Rattle.cells.proofs.planes.planes_told.Goals as goal

pub returns : goal.returns
returns c =
    all_told c.args.rows c.args.bytes.now (all_bytes c.args.bytes.now c.loop-byte.byte-index c.loop-byte-test.false c.loop-byte.invariant)
