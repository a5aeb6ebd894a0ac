use Rattle.listing.proofs.Hex.{three_digits}
use Rattle.listing.proofs.words.CodeDisplay.fmt.Goals as goal

pub returns-clause-writes : goal.returns-clause-writes
returns-clause-writes g c = rw (c.laid_out.ensures, c.in_radix.ensures, three_digits c.args.self.now.0) at c.write.ensures.writes
