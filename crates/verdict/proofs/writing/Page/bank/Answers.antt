use Rattle.verdict.proofs.Joins.{writes_both}
use Rattle.verdict.proofs.writing.Page.bank.Goals as goal

pub returns-in-None-clause-writes : goal.returns-in-None-clause-writes
returns-in-None-clause-writes c = rw (c.in-None.is, ← c.letter.ensures) (writes_both c.byte.ensures c.bytes.ensures)

pub returns-in-Some-clause-writes : goal.returns-in-Some-clause-writes
returns-in-Some-clause-writes c = rw (c.in-Some.is, ← c.letter.ensures) (writes_both c.byte.ensures c.row.ensures.writes)
