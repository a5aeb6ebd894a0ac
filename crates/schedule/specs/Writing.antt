-- Words written one after the other in an open row.
use Rattle.std.specs.Prelude.{◌≡◌, ℕ, suc, ◌+◌, ◌*◌, ◌%◌, ◌^◌, ◌<◌, ◌≤◌, true, cond, List, [], ◌∷◌, length}
use Rattle.sheet.specs.declared.sheet.Sheet.{Sheet}
use Rattle.rules.specs.declared.pins.Pins.{Pins}
use Rattle.rules.specs.declared.pins.BankName.{BankName}
use Rattle.rules.specs.declared.pins.BankName.TheVariants.{A, B}
use Rattle.rules.specs.Pins.{same}
use Rattle.std.specs.Option.{is_some}
use Rattle.rules.specs.Cells.{written}
use Rattle.rules.specs.Cases.{wr}
use Rattle.schedule.specs.declared.ledger.Ledger.{Ledger}
use Rattle.schedule.specs.Ledger.{track, next, Timely}
use Rattle.schedule.specs.After.{written_track}
use Rattle.schedule.specs.Reading.{at_bank}

-- words from the address a on, in the bits of the mask
abbrev pub all_written : ℕ → ℕ → List ℕ → (ℕ → ℕ) → ℕ → ℕ
all_written a mask [] f = f
all_written a mask (w ∷ ws) f = all_written (suc a) mask ws (written a mask w f)

-- data is written to bank b up to the clock x
abbrev pub with_written : ℕ → BankName → Ledger → Ledger
with_written x b d = record {
  clock = d.clock;
  due = d.due;
  free = d.free;
  bus = d.bus;
  block = d.block;
  mask = d.mask;
  colour = d.colour;
  a = cond (same b A) (written_track x d.a) d.a;
  b = cond (same b B) (written_track x d.b) d.b;
}

-- data was last written to bank b at t, which is now
abbrev pub wrote_at : ℕ → BankName → Ledger → Ledger
wrote_at t b d = record {
  clock = t;
  due = d.due;
  free = d.free;
  bus = d.bus;
  block = d.block;
  mask = d.mask;
  colour = d.colour;
  a = cond (same b A) (written_track t d.a) d.a;
  b = cond (same b B) (written_track t d.b) d.b;
}

abbrev pub AllWords : List ℕ → Type 0
AllWords [] = Unit {0}
AllWords (w ∷ ws) = (w < 2 ^ 32) × AllWords ws

-- words can be written from column c on from the next clock on
pub record Writable (s : Sheet) (d : Ledger) (b : BankName) (c : ℕ) (ws : List ℕ) : Type 0 where
  pub inside : c + length ws ≤ 256
  pub row_open : is_some (track d b).row ≡ true
  pub free : d.free ≤ next d
  pub rcd : (track d b).opened + s.rcd ≤ next d
  pub bwc : d.block + s.bwc ≤ next d
  pub bus : d.bus ≤ next d
  pub timely : Timely d (d.clock + length ws)
  pub small : AllWords ws

abbrev pub writing_pins : BankName → ℕ → List ℕ → List Pins
writing_pins b c [] = []
writing_pins b c (w ∷ ws) = wr (at_bank b c) w ∷ writing_pins b (suc c) ws

-- k words can be written from column c on from the next clock on, and the ledger knows of them already
pub record ReadyToWrite (s : Sheet) (d : Ledger) (b : BankName) (c k : ℕ) : Type 0 where
  pub inside : c + k ≤ 256
  pub row_open : is_some (track d b).row ≡ true
  pub free : d.free ≤ next d
  pub rcd : (track d b).opened + s.rcd ≤ next d
  pub bwc : d.block + s.bwc ≤ next d
  pub bus : d.bus ≤ next d
  pub known : d.clock + k ≤ (track d b).written
  pub timely : Timely d (d.clock + k)

-- a block of bank b was written at t, which is now
abbrev pub blocked_at : ℕ → BankName → Ledger → Ledger
blocked_at t b d = record {
  clock = t;
  due = d.due;
  free = d.free;
  bus = d.bus;
  block = t;
  mask = d.mask;
  colour = d.colour;
  a = cond (same b A) (written_track t d.a) d.a;
  b = cond (same b B) (written_track t d.b) d.b;
}

-- n words from column c on can be filled by k + 1 block writes, the first at the next clock
pub record Fillable (s : Sheet) (d : Ledger) (b : BankName) (c n k : ℕ) : Type 0 where
  pub inside : c + n ≤ 256
  pub least : 8 * k < c % 8 + n
  pub most : c % 8 + n ≤ 8 * k + 8
  pub row_open : is_some (track d b).row ≡ true
  pub free : d.free ≤ next d
  pub rcd : (track d b).opened + s.rcd ≤ next d
  pub bwc : d.block + s.bwc ≤ next d
  pub bus : d.bus ≤ next d
  pub timely : Timely d (d.clock + (k * s.bwc + 1))
