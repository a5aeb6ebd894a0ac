use Rattle.schedule.proofs.Obeying.{obeys, says}
use Rattle.schedule.proofs.laws.commands_obeyed.Goals as goal

pub returns : goal.returns
returns c = record { obeys = obeys; says = says }
