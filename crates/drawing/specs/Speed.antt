-- How soon words of one row are written and filled.
use Rattle.std.specs.Prelude.{◌≡◌, ℕ, ◌+◌, ◌-◌, ◌*◌, ◌%◌, ◌≤◌, Some}
use Rattle.sheet.specs.declared.sheet.Sheet.{Sheet}
use Rattle.schedule.specs.declared.ledger.Ledger.{Ledger}
use Rattle.schedule.specs.Ledger.{track, next}
use Rattle.schedule.specs.Places.{bank_of, row_of}
use Rattle.sequences.specs.Times.{column_time}
use Rattle.accesses.specs.Speed.{InRow}
use Rattle.rules.specs.declared.state.Register.{Register}
use Rattle.drawing.specs.Registers.{register, load_time, with_register}
use Rattle.drawing.specs.Drawn.{blocks, with_stored, with_filled}

-- the row of x is open, and data can be written to it at the next clock
pub record OpenRow (s : Sheet) (x : ℕ) (d : Ledger) : Type 0 where
  pub row : (track d (bank_of s.rows x)).row ≡ Some (row_of s.rows x)
  pub columns : column_time s (bank_of s.rows x) d ≤ next d
  pub bus : d.bus ≤ next d

-- the register holds another word, and can be loaded at the next clock
pub record Differs (s : Sheet) (r : Register) (w : ℕ) (d : Ledger) : Type 0 where
  pub other : register d r ≡ w → ⊥
  pub soon : load_time s d ≤ next d

-- In the open row k words take k clocks, and b block writes (b - 1) × bwc + 1; a load of a register takes 2 more.
pub record DrawnSoon : Type 0 where
  pub written : (s : Sheet) (x k : ℕ) (d : Ledger) → InRow x k → OpenRow s x d → (with_stored s x k d).clock ≡ d.clock + k
  pub filled : (s : Sheet) (x n : ℕ) (d : Ledger) → InRow x n → 1 ≤ n → OpenRow s x d → (with_filled s x n d).clock ≡ d.clock + ((blocks (x % 256) n - 1) * s.bwc + 1)
  pub loaded_written : (s : Sheet) (x k w : ℕ) (r : Register) (d : Ledger) → InRow x k → OpenRow s x d → Differs s r w d
      → (with_stored s x k (with_register s r w d)).clock ≡ d.clock + (2 + k)
  pub loaded_filled : (s : Sheet) (x n w : ℕ) (r : Register) (d : Ledger) → InRow x n → 1 ≤ n → OpenRow s x d → Differs s r w d
      → (with_filled s x n (with_register s r w d)).clock ≡ d.clock + (2 + ((blocks (x % 256) n - 1) * s.bwc + 1))
