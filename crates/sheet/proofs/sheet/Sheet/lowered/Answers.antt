use Rattle.std.proofs.Common.{rules}
use Rattle.sheet.proofs.Same.{same_sheet}
use Rattle.sheet.proofs.sheet.Sheet.lowered.Goals as goal

pub returns : goal.returns
returns c = same_sheet _ _ (search rules)
