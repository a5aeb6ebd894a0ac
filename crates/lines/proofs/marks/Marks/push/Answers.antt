use Rattle.std.proofs.Common.{rules}
use Rattle.lines.proofs.Rings.{pushed, wrapped}
use Rattle.lines.proofs.marks.Marks.push.Goals as goal

pub returns-then-head-self : goal.returns-then-head-self
returns-then-head-self c = search (rules, pushed)

pub returns-else-head-self : goal.returns-else-head-self
returns-else-head-self c = search (rules, wrapped)
