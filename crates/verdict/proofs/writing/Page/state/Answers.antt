use Rattle.verdict.proofs.Joins.{writes_both}
use Rattle.verdict.proofs.writing.Page.state.Goals as goal

pub returns : goal.returns
returns c = writes_both c.bank.ensures.writes (writes_both c.bank-2.ensures.writes c.verdict.ensures)
