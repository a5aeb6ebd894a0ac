use Rattle.std.proofs.Common.{sym, arith, rules}
use Rattle.verdict.proofs.Joins.{writes_both}
use Rattle.verdict.proofs.Widths.{five_digits}
use Rattle.verdict.proofs.writing.Page.row.Goals as goal

pub decimal-requires : goal.decimal-requires
decimal-requires c = omega (arith, five_digits c.args.row (search rules))

pub byte-requires : goal.byte-requires
byte-requires c = omega (arith, five_digits c.args.row (search rules))

pub bytes-requires-2 : goal.bytes-requires-2
bytes-requires-2 c = omega (arith, five_digits c.args.row (search rules))

pub byte-requires-2 : goal.byte-requires-2
byte-requires-2 c = omega (arith, five_digits c.args.row (search rules))

pub returns-clause-writes : goal.returns-clause-writes
returns-clause-writes c = rw (sym c.kind_name.ensures.value) (writes_both c.bytes.ensures (writes_both c.decimal.ensures (writes_both c.byte.ensures (writes_both c.bytes-2.ensures c.byte-2.ensures))))

pub returns-clause-bound : goal.returns-clause-bound
returns-clause-bound c = omega (arith, five_digits c.args.row (search rules))
