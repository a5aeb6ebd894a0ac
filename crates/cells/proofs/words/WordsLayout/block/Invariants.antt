use Rattle.std.proofs.Common.{◌≡◌, ℕ, ◌+◌, ◌-◌}
use borrow.Rule.Slice.PartMut.{put_mid}
use Rattle.cells.proofs.Worded.{held, partly}
use Rattle.cells.proofs.words.WordsLayout.block.Given as goal

-- the memory with the eight words put back
abbrev pub invariant-loop-k : goal.invariant-loop-k
invariant-loop-k l =
    (a : ℕ) → held (put_mid l.base (l.base + 8 - l.base) l.fn.cells l.block) a ≡ partly l.address l.columns l.mask l.colour l.k (held l.fn.cells) a
