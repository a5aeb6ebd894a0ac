use Rattle.std.proofs.Common.{◌≡◌, [], take}
use Rattle.schedule.specs.After.{address}
use Rattle.schedule.specs.Writing.{all_written}
use Rattle.sequences.specs.Gone.{Gone}
use Rattle.drawing.specs.Drawn.{with_writes}
use Rattle.drawing.proofs.writing.write_row.Given as goal

abbrev pub invariant-loop-j : goal.invariant-loop-j
invariant-loop-j g l =
    let m = g.D.Device.meaning in
    let s = l.initial.channel in
    record {
      gone : Gone g.D.Device.reachable m s l.channel []
          (all_written (address s.sheet s.ledger l.bank l.column) s.ledger.mask (take l.j l.words) (m s.device).cells);
      ledger : l.channel.ledger ≡ with_writes l.bank l.j s.ledger;
    }
