use Rattle.driver.proofs.Waked.{woken}
use Rattle.driver.proofs.Resting.{rest_of}
use Rattle.driver.proofs.settled.Settled.prime.Goals as goal

pub returns : goal.returns
returns g c =
    let w = woken _ _ (g.D.Device.meaning c.wake.new.device) _ _ c.self.view_is c.self.invariant c.sheet-sheet.ensures c.wake.ensures.after c.first_ledger.ensures in
    record {
      stretch = w.stretch;
      few = w.few;
      cells = w.cells;
      kept = w.kept;
      count = w.count;
      sheet = w.sheet;
      ledger = w.ledger;
      rest = record {
        stands = record { valid = c.wake.ensures.reachable; rests = w.rests; current = w.current; counted = w.counted };
        soon = w.soon;
      };
    }

pub invariant_of-result : goal.invariant_of-result
invariant_of-result g c =
    let w = woken _ _ (g.D.Device.meaning c.wake.new.device) _ _ c.self.view_is c.self.invariant c.sheet-sheet.ensures c.wake.ensures.after c.first_ledger.ensures in
    record { valid = c.wake.ensures.reachable; rests = w.rests; current = w.current; counted = w.counted }

pub invariant_of-result-2 : goal.invariant_of-result-2
invariant_of-result-2 g c =
    let w = woken _ _ (g.D.Device.meaning c.wake.new.device) _ _ c.self.view_is c.self.invariant c.sheet-sheet.ensures c.wake.ensures.after c.first_ledger.ensures in
    record { rest = rest_of (record { valid = c.wake.ensures.reachable; rests = w.rests; current = w.current; counted = w.counted }) w.soon }
