use Rattle.std.proofs.Common.{◌≡◌, ◌+◌, ◌-◌, ◌≤◌, max, [], None}
use Rattle.sequences.specs.Gone.{Gone}
use Rattle.sequences.proofs.channel.Channel.pass_until.Given as goal

abbrev pub invariant-loop-self : goal.invariant-loop-self
invariant-loop-self g l = record {
  gone : Gone g.D.Device.reachable g.D.Device.meaning l.initial.self l.self [] (g.D.Device.meaning l.initial.self.device).cells;
  idle_a : l.self.ledger.a.row ≡ None;
  idle_b : l.self.ledger.b.row ≡ None;
  fresh : l.self.ledger.clock ≤ l.self.ledger.due;
  few : l.self.ledger.clock ≤ max l.initial.self.ledger.clock (l.end + 65);
}

abbrev pub decreases-loop-self : goal.decreases-loop-self
decreases-loop-self g l = l.end - l.self.ledger.clock
