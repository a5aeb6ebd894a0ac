use Rattle.std.proofs.Common.{◌^◌, ◌<◌, rules}
use Rattle.listing.proofs.Hex.{one_digit, eight_digits}
use Rattle.listing.proofs.page.row_text.Goals as goal

pub returns : goal.returns
returns c =
    let word : c.args.pins.dq < 2 ^ 32 = search rules in
    rw (c.laid_out.ensures, c.in_radix.ensures, c.in_radix-2.ensures, one_digit c.args.pins.dqm, eight_digits c.args.pins.dq word, c.decode.ensures) at c.format.ensures.ok
