use Rattle.std.proofs.Common.{refl}
use Rattle.rules.proofs.Runs.{run_held, outs_held}
use Rattle.rules.proofs.laws.fault_stays.Goals as goal

pub returns : goal.returns
returns c = record { held = run_held; silent = outs_held; cleared = λ m. refl; cells = λ m. refl }
