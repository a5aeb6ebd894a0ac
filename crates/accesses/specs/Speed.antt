-- How soon words of one row are read.
use Rattle.std.specs.Prelude.{◌≡◌, ℕ, ◌+◌, ◌%◌, ◌≤◌, Some, None, ◌≢◌}
use Rattle.sheet.specs.declared.sheet.Sheet.{Sheet}
use Rattle.schedule.specs.declared.ledger.Ledger.{Ledger}
use Rattle.schedule.specs.Ledger.{track, next}
use Rattle.schedule.specs.Places.{bank_of, row_of}
use Rattle.sequences.specs.Times.{close_time, open_time, column_time, with_closed}
use Rattle.accesses.specs.Rows.{with_fetched}

-- n words that lie in one row
abbrev pub InRow : ℕ → ℕ → Type 0
InRow x n = x % 256 + n ≤ 256

-- In one row, with every distance but the new ones met: in the open row k words take k + cl clocks; from an idle bank
-- rcd more; where another row is open, rp and rcd more.
pub record Soon : Type 0 where
  pub in_open : (s : Sheet) (x k : ℕ) (d : Ledger) → InRow x k → (track d (bank_of s.rows x)).row ≡ Some (row_of s.rows x)
      → column_time s (bank_of s.rows x) d ≤ next d
      → (with_fetched s x k d).clock ≡ d.clock + (k + s.cl)
  pub from_idle : (s : Sheet) (x k : ℕ) (d : Ledger) → InRow x k → (track d (bank_of s.rows x)).row ≡ None
      → open_time s (bank_of s.rows x) d ≤ next d → d.block + s.bwc ≤ next d
      → (with_fetched s x k d).clock ≡ d.clock + (s.rcd + k + s.cl)
  pub from_other : (s : Sheet) (x k r : ℕ) (d : Ledger) → InRow x k → (track d (bank_of s.rows x)).row ≡ Some r → (r ≢ row_of s.rows x)
      → close_time s (bank_of s.rows x) d ≤ next d → open_time s (bank_of s.rows x) (with_closed s (bank_of s.rows x) d) ≤ next d + s.rp → d.block + s.bwc ≤ next d
      → (with_fetched s x k d).clock ≡ d.clock + (s.rp + s.rcd + k + s.cl)
