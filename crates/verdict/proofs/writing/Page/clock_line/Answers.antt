use Rattle.std.proofs.Common.{arith}
use Rattle.verdict.proofs.Joins.{writes_both, length_hex}
use Rattle.verdict.proofs.Widths.{four_digits}
use Rattle.verdict.proofs.writing.Page.clock_line.Goals as goal

pub decimal-requires : goal.decimal-requires
decimal-requires c = omega (arith, four_digits c.args.clock c.requires.small)

pub byte-requires : goal.byte-requires
byte-requires c = omega (arith, four_digits c.args.clock c.requires.small)

pub hex-requires : goal.hex-requires
hex-requires c = omega (arith, four_digits c.args.clock c.requires.small)

pub byte-requires-2 : goal.byte-requires-2
byte-requires-2 c = omega (arith, four_digits c.args.clock c.requires.small)

pub hex-requires-2 : goal.hex-requires-2
hex-requires-2 c = omega (arith, four_digits c.args.clock c.requires.small)

pub byte-requires-3 : goal.byte-requires-3
byte-requires-3 c = omega (arith, four_digits c.args.clock c.requires.small, length_hex 8 c.args.word)

pub returns-clause-writes : goal.returns-clause-writes
returns-clause-writes c =
    writes_both c.decimal.ensures (writes_both c.byte.ensures (writes_both c.hex.ensures (writes_both c.byte-2.ensures (writes_both c.hex-2.ensures c.byte-3.ensures))))

pub returns-clause-bound : goal.returns-clause-bound
returns-clause-bound c = omega (arith, four_digits c.args.clock c.requires.small, length_hex 8 c.args.word)
