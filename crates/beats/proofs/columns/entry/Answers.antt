use Rattle.beats.proofs.Below.{kept}
use Rattle.beats.proofs.columns.entry.Goals as goal

pub returns : goal.returns
returns g c =
    let k = kept c.args.table.now g.row.N c.args.c c.args.i c.requires.rule c.requires.within in
    record { is = k.0; small = rw k.0 k.1 }
