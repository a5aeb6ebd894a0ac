use Rattle.book.proofs.Lists.{lists_upheld}
use Rattle.book.proofs.laws.lists_upheld.Goals as goal

pub returns : goal.returns
returns c = lists_upheld
