use Rattle.trace.proofs.Whole.{lines_well}
use Rattle.trace.proofs.reading.lines.Goals as goal

pub returns-clause-well : goal.returns-clause-well
returns-clause-well c = let h = c.in_ok-sheet.ensures in lines_well _ _ h.value h.end
