use Rattle.std.proofs.Common.{◌≡◌, ◌-◌, ◌*◌, min, []}
use Rattle.schedule.specs.After.{address}
use Rattle.schedule.specs.Spread.{spread}
use Rattle.sequences.specs.Gone.{Gone}
use Rattle.drawing.specs.Drawn.{with_blocks}
use Rattle.drawing.proofs.filling.fill_row.Given as goal

abbrev pub invariant-loop-i : goal.invariant-loop-i
invariant-loop-i g l =
    let m = g.D.Device.meaning in
    let s = l.initial.channel in
    record {
      gone : Gone g.D.Device.reachable m s l.channel []
          (spread (m s.device).cells (address s.sheet s.ledger l.bank l.column) (min l.n (8 * l.i - l.first)) s.ledger.mask (λ _. s.ledger.colour));
      ledger : l.channel.ledger ≡ with_blocks s.sheet l.bank l.i s.ledger;
    }
