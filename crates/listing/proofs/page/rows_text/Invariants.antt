use Rattle.std.proofs.Common.{string_bytes}
use Rattle.std.specs.Iterator.Adapters.{enumerate_source, enumerate_count}
use Rattle.listing.proofs.Rows.{Rows}
use Rattle.listing.proofs.page.rows_text.Given as goal

abbrev pub invariant-loop-k : goal.invariant-loop-k
invariant-loop-k l = record {
  can_next : (goal.iterator-loop-k).can_next l.k-iterator;
  is_finite : (goal.iterator-loop-k).is_finite l.k-iterator;
  rows : Rows l.latency (enumerate_count l.k-iterator) l.fn.clocks (enumerate_source l.k-iterator) (string_bytes l.text);
}
