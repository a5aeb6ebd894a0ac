-- Words read one after the other in an open row.
use Rattle.std.specs.Prelude.{◌≡◌, ℕ, zero, suc, ◌+◌, ◌-◌, ◌*◌, ◌≤◌, true, false, cond, List, [], ◌∷◌, Some, None, Option, nat_lt}
use Rattle.sheet.specs.declared.sheet.Sheet.{Sheet}
use Rattle.rules.specs.declared.pins.Pins.{Pins}
use Rattle.rules.specs.declared.pins.BankName.{BankName}
use Rattle.rules.specs.declared.pins.Access.TheVariants.{Read}
use Rattle.rules.specs.declared.pins.Command.{Command}
use Rattle.rules.specs.declared.pins.Command.TheVariants.{Nop, Column}
use Rattle.std.specs.Option.{is_some}
use Rattle.rules.specs.Cells.{bank_number}
use Rattle.rules.specs.Meaning.{Meaning}
use Rattle.rules.specs.Cases.{nop, rd}
use Rattle.schedule.specs.declared.ledger.Ledger.{Ledger}
use Rattle.schedule.specs.Ledger.{track, next, Steady, Timely}
use Rattle.schedule.specs.After.{address}
use Rattle.schedule.specs.Stretch.{Stretch, at_clock, span}

-- the line of reads, where w i is what leaves it at step i
abbrev pub window : (ℕ → Option ℕ) → ℕ → ℕ → List (Option ℕ)
window w i zero = []
window w i (suc l) = w i ∷ window w (suc i) l

-- what leaves the line at step i of a stretch that reads k words from the address a on
abbrev pub expected : (ℕ → ℕ) → ℕ → ℕ → ℕ → ℕ → Option ℕ
expected f a k cl i = cond (nat_lt i cl) None (cond (nat_lt (i - cl) k) (Some (f (a + (i - cl)))) None)

-- k words from column c on can be read from the next clock on, and the bus is kept for them
pub record Readable (s : Sheet) (d : Ledger) (b : BankName) (c k : ℕ) : Type 0 where
  pub inside : c + k ≤ 256
  pub row_open : is_some (track d b).row ≡ true
  pub free : d.free ≤ next d
  pub rcd : (track d b).opened + s.rcd ≤ next d
  pub bwc : d.block + s.bwc ≤ next d
  pub bus : d.clock + (k + s.cl) + 2 ≤ d.bus
  pub timely : Timely d (d.clock + (k + s.cl))

-- j steps of the stretch are done
pub record Reading (s : Sheet) (d : Ledger) (f : ℕ → ℕ) (b : BankName) (c k j : ℕ) (m : Meaning) : Type 0 where
  pub steady : Steady s (window (expected f (address s d b c) k s.cl) j s.cl) m (at_clock (d.clock + j) d)
  pub cells : m.cells ≡ f

-- the command of step j
abbrev pub reading_command : BankName → ℕ → ℕ → ℕ → Command
reading_command b c k j = cond (nat_lt j k) (Column Read b false (c + j)) Nop

-- A9 and the rest of an address
abbrev pub at_bank : BankName → ℕ → ℕ
at_bank b x = bank_number b * 512 + x

abbrev pub reading_pins : BankName → ℕ → ℕ → ℕ → Pins
reading_pins b c k j = cond (nat_lt j k) (rd (at_bank b (c + j))) nop

-- j steps are done from m₀, and as many words as could come have come
pub record HalfRead (s : Sheet) (d : Ledger) (f : ℕ → ℕ) (b : BankName) (c k j : ℕ) (m₀ m : Meaning) : Type 0 where
  pub reading : Reading s d f b c k j m
  pub stretch : Stretch m₀ m j (span f (address s d b c) (j - s.cl))

-- step j, which brought r
pub record ReadOn (s : Sheet) (d : Ledger) (f : ℕ → ℕ) (b : BankName) (c k j : ℕ) (m₀ m : Meaning) (r : ℕ × ℕ) : Type 0 where
  pub half : HalfRead s d f b c k (j + 1) m₀ m
  pub word : s.cl ≤ j → r.1 ≡ f (address s d b c + (j - s.cl))
