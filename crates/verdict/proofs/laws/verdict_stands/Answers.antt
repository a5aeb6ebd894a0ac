use Rattle.verdict.proofs.Verdicts.{verdict_stands}
use Rattle.verdict.proofs.laws.verdict_stands.Goals as goal

pub returns : goal.returns
returns c = verdict_stands
