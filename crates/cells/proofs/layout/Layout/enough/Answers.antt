use Rattle.std.proofs.Common.{ℕ, ◌/◌, leb, length, ap, ◌∙◌}
use Rattle.cells.proofs.Rows.{rows_enough}
use Rattle.cells.proofs.layout.Layout.enough.Goals as goal

pub returns : goal.returns
returns g c =
    let n : ℕ = length c.args.cells.now in
    ap (λ (k : ℕ). leb c.args.rows (n / k)) c.per_row.ensures ∙
    rows_enough g.Self.Layout.row c.args.rows n g.met.Self.Layout.some
