use Rattle.rules.proofs.Marking.{marks_kept}
use Rattle.rules.proofs.laws.marks_kept.Goals as goal

pub returns : goal.returns
returns c = marks_kept
