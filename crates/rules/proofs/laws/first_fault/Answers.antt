use Rattle.rules.proofs.Runs.{first_fault, fault_lasts}
use Rattle.rules.proofs.laws.first_fault.Goals as goal

pub returns : goal.returns
returns c = record { comes = first_fault; lasts = fault_lasts }
