-- The ledger around words of a row, and of two.
use Rattle.std.specs.Prelude.{ℕ, ◌+◌, ◌-◌, ◌%◌, cond, nat_le}
use Rattle.sheet.specs.declared.sheet.Sheet.{Sheet}
use Rattle.schedule.specs.declared.ledger.Ledger.{Ledger}
use Rattle.schedule.specs.Places.{bank_of, row_of}
use Rattle.schedule.specs.Stretch.{at_clock, with_bus}
use Rattle.sequences.specs.Times.{with_selected}

-- the bus is kept for k words
abbrev pub kept_for : Sheet → ℕ → Ledger → Ledger
kept_for s k d = with_bus (d.clock + (k + s.cl) + 2) d

-- k words were read
abbrev pub with_read : Sheet → ℕ → Ledger → Ledger
with_read s k d = at_clock (d.clock + (k + s.cl)) (kept_for s k d)

-- k words of the row of address x were read
abbrev pub with_row_read : Sheet → ℕ → ℕ → Ledger → Ledger
with_row_read s x k d = with_read s k (with_selected s (bank_of s.rows x) (row_of s.rows x) d)

-- the words from address x on that lie in its row
abbrev pub room : ℕ → ℕ
room x = 256 - x % 256

-- n words from address x on, in one row or in two, where g is what is done in one
abbrev pub in_rows : (ℕ → ℕ → Ledger → Ledger) → ℕ → ℕ → Ledger → Ledger
in_rows g x n d = cond (nat_le n (room x)) (g x n d) (g (x + room x) (n - room x) (g x (room x) d))

-- n words from address x on were read, in one row or in two
abbrev pub with_fetched : Sheet → ℕ → ℕ → Ledger → Ledger
with_fetched s x n d =
    cond (nat_le n (room x)) (with_row_read s x n d) (with_row_read s (x + room x) (n - room x) (with_row_read s x (room x) d))
