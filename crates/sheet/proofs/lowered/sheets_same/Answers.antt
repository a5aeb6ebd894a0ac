use Rattle.sheet.proofs.Same.{same_sheet}
use Rattle.sheet.proofs.lowered.sheets_same.Goals as goal

pub returns : goal.returns
returns c = same_sheet
