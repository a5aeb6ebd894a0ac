use Rattle.schedule.proofs.Singles.{goes, waits}
use Rattle.schedule.proofs.Halves.{reads}
use Rattle.schedule.proofs.Writings.{writes}
use Rattle.schedule.proofs.Blocks.{fills, fills_all}
use Rattle.schedule.proofs.laws.rows_served.Goals as goal

pub returns : goal.returns
returns c = record { one = goes; quiet = waits; read = reads; written = writes; block = fills; filled = fills_all }
