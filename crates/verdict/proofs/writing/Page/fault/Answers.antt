use Rattle.std.proofs.Common.{ap, arith}
use Rattle.verdict.proofs.Joins.{writes_as, writes_both}
use Rattle.verdict.proofs.Widths.{rule_digits, four_digits}
use Rattle.verdict.specs.Page.{fault_line}
use Rattle.verdict.proofs.writing.Page.fault.Goals as goal

pub decimal-requires : goal.decimal-requires
decimal-requires c = omega (arith, rule_digits c.args.fault.rule _ c.number-number.ensures)

pub byte-requires : goal.byte-requires
byte-requires c = omega (arith, rule_digits c.args.fault.rule _ c.number-number.ensures)

pub decimal-requires-2 : goal.decimal-requires-2
decimal-requires-2 c = omega (arith, rule_digits c.args.fault.rule _ c.number-number.ensures, four_digits c.args.fault.clock c.requires.early)

pub byte-requires-2 : goal.byte-requires-2
byte-requires-2 c = omega (arith, rule_digits c.args.fault.rule _ c.number-number.ensures, four_digits c.args.fault.clock c.requires.early)

pub returns : goal.returns
returns c = writes_as (ap (λ x. fault_line x c.args.fault.clock) c.number-number.ensures)
    (writes_both c.bytes.ensures (writes_both c.decimal.ensures (writes_both c.byte.ensures (writes_both c.decimal-2.ensures c.byte-2.ensures))))
