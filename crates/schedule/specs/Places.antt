-- Where an address lies.
use Rattle.std.specs.Prelude.{◌≡◌, ℕ, ◌-◌, ◌*◌, ◌/◌, ◌%◌, ◌<◌, cond, nat_lt}
use Rattle.rules.specs.declared.pins.BankName.{BankName}
use Rattle.rules.specs.declared.pins.BankName.TheVariants.{A, B}
use Rattle.rules.specs.Cells.{place}

abbrev pub bank_of : ℕ → ℕ → BankName
bank_of rows x = cond (nat_lt (x / 256) rows) A B

abbrev pub row_of : ℕ → ℕ → ℕ
row_of rows x = cond (nat_lt (x / 256) rows) (x / 256) (x / 256 - rows)

-- each address of a device of so many rows is one column of one row of one bank
pub record Lies : Type 0 where
  pub inside : (rows x : ℕ) → x < rows * 512 → row_of rows x < rows
  pub there : (rows x : ℕ) → place rows (bank_of rows x) (row_of rows x) (x % 256) ≡ x
