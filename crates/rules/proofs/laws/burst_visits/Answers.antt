use Rattle.rules.proofs.Bursts.{column_begins, column_inside, column_visits, column_once}
use Rattle.rules.proofs.laws.burst_visits.Goals as goal

pub returns : goal.returns
returns c = record { begins = column_begins; inside = column_inside; visits = column_visits; once = column_once }
