-- The driver's ledger after an accepted request: tidied, registers loaded where they differ, and then the words, each
-- command as soon as it may come.
use Rattle.std.specs.Prelude.{ℕ}
use Rattle.sheet.specs.declared.sheet.Sheet.{Sheet}
use Rattle.pen.specs.declared.pen_numbers.Pen.{Pen}
use Rattle.pen.specs.Reach.{reach}
use Rattle.schedule.specs.declared.ledger.Ledger.{Ledger}
use Rattle.sequences.specs.Times.{tidied}
use Rattle.accesses.specs.Rows.{with_fetched}
use Rattle.rules.specs.declared.state.Register.TheVariants.{Mask, Colour}
use Rattle.drawing.specs.Registers.{with_register}
use Rattle.drawing.specs.Drawn.{with_stored, with_filled}

abbrev pub after_read : Sheet → ℕ → ℕ → Ledger → Ledger
after_read s a n d = with_fetched s a n (tidied s d)

-- the mask register holds the pen's reach
abbrev pub masked : Sheet → Pen → Ledger → Ledger
masked s p d = with_register s Mask (reach p) (tidied s d)

abbrev pub after_write : Sheet → Pen → ℕ → ℕ → Ledger → Ledger
after_write s p a n d = with_stored s a n (masked s p d)

abbrev pub after_fill : Sheet → Pen → ℕ → ℕ → Ledger → Ledger
after_fill s p a n d = with_filled s a n (with_register s Colour p.colour (masked s p d))
