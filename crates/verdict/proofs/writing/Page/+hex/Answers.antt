use Rattle.std.proofs.Common.{◌-◌, ◌/◌, ◌<◌, sym, arith}
use Rattle.verdict.proofs.Joins.{writes_both, hex_last, length_hex}
use Rattle.verdict.proofs.writing.Page.+hex.Goals as goal

pub byte-requires : goal.byte-requires
byte-requires t c = omega (arith, c.hex.ensures.wrote.ends, c.hex.ensures.wrote.long, length_hex (c.args.digits - 1) (c.args.value / 16))

pub returns-then-digits-gt0 : goal.returns-then-digits-gt0
returns-then-digits-gt0 t c =
    let some : 0 < c.args.digits = omega arith in
    rw (sym (hex_last c.args.digits c.args.value some), sym c.hex_digit.ensures) (writes_both c.hex.ensures c.byte.ensures)
