use Rattle.rules.proofs.Runs.{clock_adds, clock_stays, clock_named}
use Rattle.rules.proofs.laws.clock_counts.Goals as goal

pub returns : goal.returns
returns c = record { adds = clock_adds; stays = clock_stays; names = clock_named }
