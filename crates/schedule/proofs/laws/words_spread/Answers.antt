use Rattle.schedule.proofs.Filling.{spreads}
use Rattle.schedule.proofs.laws.words_spread.Goals as goal

pub returns : goal.returns
returns c = spreads
