use Rattle.cells.proofs.Bits.{column_code}
use Rattle.cells.proofs.words.column.Goals as goal

pub returns : goal.returns
returns c = column_code c.args.columns c.args.k
