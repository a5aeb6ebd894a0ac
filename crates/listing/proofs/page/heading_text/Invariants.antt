use Rattle.std.proofs.Common.{◌≡◌, ◌++◌, map, string_bytes}
use Rattle.std.specs.Iterator.Adapters.{zip_first, zip_second}
use Rattle.std.specs.Slice.Iter.{iter_rest}
use Rattle.sheet.specs.Admit.{numbers}
use Rattle.listing.specs.Page.{names, heading_text}
use Rattle.listing.proofs.page.heading_text.Given as goal

-- with the lines of the fields that are left, the text so far is the whole
abbrev pub invariant-loop-name : goal.invariant-loop-name
invariant-loop-name l = record {
  can_next : (goal.iterator-loop-name).can_next l.name-iterator;
  is_finite : (goal.iterator-loop-name).is_finite l.name-iterator;
  whole : string_bytes l.text ++ heading_text (map (λ n. n.now) (iter_rest (zip_first l.name-iterator))) (iter_rest (zip_second l.name-iterator)) ≡ heading_text names (numbers l.sheet);
}
