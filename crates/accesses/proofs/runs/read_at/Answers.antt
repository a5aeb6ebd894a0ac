use Rattle.std.proofs.Common.{refl}
use Rattle.sequences.proofs.Gones.{gone_then, gone_is}
use Rattle.accesses.proofs.runs.read_at.Goals as goal

pub returns-clause-gone : goal.returns-clause-gone
returns-clause-gone g c =
    let u = c.select.ensures in
    gone_is _ (gone_then _ u.gone c.read_row.ensures.gone refl) u.gone.went.cells
