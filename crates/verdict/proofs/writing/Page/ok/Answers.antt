use Rattle.std.proofs.Common.{arith}
use Rattle.verdict.proofs.Joins.{writes_both}
use Rattle.verdict.proofs.Widths.{four_digits}
use Rattle.verdict.proofs.writing.Page.ok.Goals as goal

pub decimal-requires : goal.decimal-requires
decimal-requires c = omega (arith, four_digits c.args.clocks c.requires.small)

pub byte-requires : goal.byte-requires
byte-requires c = omega (arith, four_digits c.args.clocks c.requires.small)

pub returns : goal.returns
returns c = writes_both c.bytes.ensures (writes_both c.decimal.ensures c.byte.ensures)
