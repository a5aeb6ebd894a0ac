-- The ledger around words that are written and filled.
use Rattle.std.specs.Prelude.{ℕ, zero, suc, ◌+◌, ◌*◌, ◌/◌, ◌%◌}
use Rattle.sheet.specs.declared.sheet.Sheet.{Sheet}
use Rattle.rules.specs.declared.pins.BankName.{BankName}
use Rattle.schedule.specs.declared.ledger.Ledger.{Ledger}
use Rattle.schedule.specs.Places.{bank_of, row_of}
use Rattle.schedule.specs.Writing.{wrote_at, blocked_at}
use Rattle.sequences.specs.Times.{waited, with_selected}
use Rattle.accesses.specs.Rows.{in_rows}

-- data can be written to the column of address x at the next clock
abbrev pub with_aimed : Sheet → ℕ → Ledger → Ledger
with_aimed s x d = waited d.bus (with_selected s (bank_of s.rows x) (row_of s.rows x) d)

-- k words were written to bank b, a clock each
abbrev pub with_writes : BankName → ℕ → Ledger → Ledger
with_writes b zero d = d
with_writes b (suc k) d = wrote_at (d.clock + suc k) b d

-- n words from address x on were written, in one row, and in one or two
abbrev pub with_row_written : Sheet → ℕ → ℕ → Ledger → Ledger
with_row_written s x n d = with_writes (bank_of s.rows x) n (with_aimed s x d)

abbrev pub with_stored : Sheet → ℕ → ℕ → Ledger → Ledger
with_stored s = in_rows (with_row_written s)

-- k blocks were written to bank b, bwc clocks apart
abbrev pub with_blocks : Sheet → BankName → ℕ → Ledger → Ledger
with_blocks s b zero d = d
with_blocks s b (suc k) d = blocked_at (d.clock + (k * s.bwc + 1)) b d

-- the blocks of eight columns in which n words from column c on lie
abbrev pub blocks : ℕ → ℕ → ℕ
blocks c n = (c % 8 + n + 7) / 8

-- n words from address x on were filled, in one row, and in one or two
abbrev pub with_row_filled : Sheet → ℕ → ℕ → Ledger → Ledger
with_row_filled s x n d = with_blocks s (bank_of s.rows x) (blocks (x % 256) n) (with_aimed s x d)

abbrev pub with_filled : Sheet → ℕ → ℕ → Ledger → Ledger
with_filled s = in_rows (with_row_filled s)
