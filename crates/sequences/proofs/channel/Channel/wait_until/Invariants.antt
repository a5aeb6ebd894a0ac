use Rattle.std.proofs.Common.{◌≡◌, ◌+◌, ◌-◌, ◌≤◌, max, []}
use Rattle.schedule.specs.Stretch.{at_clock}
use Rattle.sequences.specs.Gone.{Gone}
use Rattle.sequences.proofs.channel.Channel.wait_until.Given as goal

abbrev pub invariant-loop-next : goal.invariant-loop-next
invariant-loop-next g l = record {
  gone : Gone g.D.Device.reachable g.D.Device.meaning l.initial.self l.self [] (g.D.Device.meaning l.initial.self.device).cells;
  ledger : l.self.ledger ≡ at_clock l.self.ledger.clock l.initial.self.ledger;
  most : l.self.ledger.clock ≤ max l.initial.self.ledger.clock (l.t - 1);
  here : l.self.ledger.clock + 1 ≡ l._next;
}
