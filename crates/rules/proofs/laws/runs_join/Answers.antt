use Rattle.rules.proofs.Runs.{run_join, outs_join}
use Rattle.rules.proofs.laws.runs_join.Goals as goal

pub returns : goal.returns
returns c = record { runs = run_join; answers = outs_join }
