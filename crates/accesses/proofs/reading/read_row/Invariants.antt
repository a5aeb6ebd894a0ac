use Rattle.std.proofs.Common.{◌≡◌, ◌+◌, ◌-◌, length, take}
use Rattle.schedule.specs.After.{address}
use Rattle.schedule.specs.Stretch.{at_clock, span}
use Rattle.schedule.specs.Reading.{HalfRead}
use Rattle.accesses.specs.Rows.{kept_for}
use Rattle.accesses.proofs.reading.read_row.Given as goal

abbrev pub invariant-loop-j : goal.invariant-loop-j
invariant-loop-j g l =
    let m = g.D.Device.meaning in
    let s = l.initial.channel-inside in
    let k = length l.initial.buffer in
    let d = kept_for s.sheet k s.ledger in
    record {
      valid : g.D.Device.reachable l.channel-inside.device;
      sheet : l.channel-inside.sheet ≡ s.sheet;
      ledger : l.channel-inside.ledger ≡ at_clock (s.ledger.clock + l.j) d;
      half : HalfRead s.sheet d (m s.device).cells l.bank l.column k l.j (m s.device) (m l.channel-inside.device);
      words : take (l.j - s.sheet.cl) l.buffer ≡ span (m s.device).cells (address s.sheet s.ledger l.bank l.column) (l.j - s.sheet.cl);
    }
