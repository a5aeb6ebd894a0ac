use Rattle.std.proofs.Common.{rules}
use Rattle.cells.proofs.Bits.{put_code}
use Rattle.cells.proofs.masked.merged.Goals as goal

pub returns : goal.returns
returns c = put_code 32 c.args.mask c.args.new c.args.old (search rules) (search rules)
