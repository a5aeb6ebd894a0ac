-- Where an address lies.
use Rattle.std.proofs.Common.{◌≡◌, ℕ, ◌-◌, ◌*◌, ◌/◌, ◌%◌, ◌<◌, ◌≤◌, Bool, true, false, cond, ltb, refl, arith, ltb-false, ltb-true}
use Rattle.rules.specs.declared.pins.BankName.TheVariants.{A, B}
use Rattle.rules.specs.Cells.{place}
use Rattle.schedule.specs.Places.{row_of, bank_of, Lies}

inside : (rows x : ℕ) → x < rows * 512 → row_of rows x < rows
inside rows x h = go (ltb (x / 256) rows) refl
  where
    go : (z : Bool) → ltb (x / 256) rows ≡ z → cond z (x / 256) (x / 256 - rows) < rows
    go true e = ltb-true (x / 256) rows e
    go false e = let q : rows ≤ x / 256 = ltb-false (x / 256) rows e in omega arith

there : (rows x : ℕ) → place rows (bank_of rows x) (row_of rows x) (x % 256) ≡ x
there rows x = go (ltb (x / 256) rows) refl
  where
    go : (z : Bool) → ltb (x / 256) rows ≡ z → place rows (cond z A B) (cond z (x / 256) (x / 256 - rows)) (x % 256) ≡ x
    go true e = omega arith
    go false e = let q : rows ≤ x / 256 = ltb-false (x / 256) rows e in omega arith

pub lies : Lies
lies = record { inside = inside; there = there }
