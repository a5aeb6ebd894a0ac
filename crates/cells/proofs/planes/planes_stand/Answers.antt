use Rattle.cells.proofs.Told.{laid_out, all_told, same_bytes}
use Rattle.cells.proofs.planes.planes_stand.Goals as goal

pub returns : goal.returns
returns c = record { bits = laid_out; bytes = all_told; same = same_bytes }
