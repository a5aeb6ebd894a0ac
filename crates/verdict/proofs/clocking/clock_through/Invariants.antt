use Rattle.std.specs.Iterator.Adapters.{enumerate_source, enumerate_count}
use Rattle.device.specs.Cells.{meaning_of, Keeps}
use Rattle.verdict.proofs.Turns.{Far}
use Rattle.verdict.proofs.clocking.clock_through.Given as goal

-- the device has run the clocks so far on the same memory, and what they answered is written
abbrev pub invariant-loop-k : goal.invariant-loop-k
invariant-loop-k l =
    let d = l.device in
    let e = l.initial.device in
    record {
      can_next : (goal.iterator-loop-k).can_next l.k-iterator;
      is_finite : (goal.iterator-loop-k).is_finite l.k-iterator;
      far : Far (meaning_of e) (meaning_of d) l.fn.clocks (enumerate_source l.k-iterator) (enumerate_count l.k-iterator) l.initial.page l.page;
      kept : Keeps e d;
    }
