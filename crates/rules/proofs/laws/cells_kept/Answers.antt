use Rattle.rules.proofs.Kept.{words_kept, bits_kept}
use Rattle.rules.proofs.laws.cells_kept.Goals as goal

pub returns : goal.returns
returns c = record { words = words_kept; bits = bits_kept }
