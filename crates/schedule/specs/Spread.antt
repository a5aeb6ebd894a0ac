-- Words in an interval of addresses: what a row of writes and a row of block writes come to.
use Rattle.std.specs.Prelude.{◌≡◌, ℕ, zero, suc, ◌+◌, ◌-◌, ◌*◌, ◌%◌, ◌^◌, ◌<◌, ◌≤◌, Bool, cond, ◌&&◌, List, [], ◌∷◌, ◌++◌, length, replicate, nat_le, nat_lt, slice_index}
use Rattle.sheet.specs.declared.sheet.Sheet.{Sheet}
use Rattle.rules.specs.declared.pins.Pins.{Pins}
use Rattle.rules.specs.declared.pins.BankName.{BankName}
use Rattle.rules.specs.declared.pins.Access.TheVariants.{Block}
use Rattle.rules.specs.declared.pins.Command.TheVariants.{Column}
use Rattle.rules.specs.Words.{put}
use Rattle.rules.specs.Cases.{nop, bw}
use Rattle.schedule.specs.declared.ledger.Ledger.{Ledger}
use Rattle.schedule.specs.After.{address, stored}
use Rattle.schedule.specs.Stretch.{span}
use Rattle.schedule.specs.Reading.{at_bank}
use Rattle.schedule.specs.Writing.{all_written}

-- a is one of the n addresses from x on
abbrev pub among : ℕ → ℕ → ℕ → Bool
among x n a = nat_le x a && nat_lt a (x + n)

-- the n words from x on take the bits of the mask from new
abbrev pub spread : (ℕ → ℕ) → ℕ → ℕ → ℕ → (ℕ → ℕ) → ℕ → ℕ
spread f x n mask new = λ a. cond (among x n a) (put mask (new (a - x)) (f a)) (f a)

-- the columns from lo up to hi of a block, on all four lanes
abbrev pub columns : ℕ → ℕ → ℕ
columns lo hi = (2 ^ hi - 2 ^ lo) * 0x01010101

-- k + 1 block writes, w clocks apart, that fill n words from column c on
abbrev pub filling_pins : BankName → ℕ → ℕ → ℕ → ℕ → List Pins
filling_pins b w zero c n = bw (at_bank b (c - c % 8)) (columns (c % 8) (c % 8 + n)) ∷ []
filling_pins b w (suc k) c n =
    bw (at_bank b (c - c % 8)) (columns (c % 8) 8) ∷ (replicate (w - 1) nop ++ filling_pins b w k (c + (8 - c % 8)) (n - (8 - c % 8)))

pub record Spreads : Type 0 where
  -- no words, and more words behind others
  pub none : (f : ℕ → ℕ) (x mask : ℕ) (new : ℕ → ℕ) → spread f x 0 mask new ≡ f
  pub more : (f : ℕ → ℕ) (x n k mask : ℕ) (new : ℕ → ℕ) → spread (spread f x n mask new) (x + n) k mask (λ j. new (n + j)) ≡ spread f x (n + k) mask new
  -- words written one by one, and in two rows as in one
  pub written : (ws : List ℕ) (f : ℕ → ℕ) (x mask : ℕ) → all_written x mask ws f ≡ spread f x (length ws) mask (λ j. slice_index ws j)
  pub in_two : (us vs : List ℕ) (f : ℕ → ℕ) (x mask : ℕ) → all_written x mask (us ++ vs) f ≡ all_written (x + length us) mask vs (all_written x mask us f)
  -- a block write fills the chosen columns
  pub block : (s : Sheet) (d : Ledger) (b : BankName) (a8 : Bool) (c lo hi : ℕ) (f : ℕ → ℕ) → c % 8 ≡ 0 → lo ≤ hi → hi ≤ 8 → d.mask < 2 ^ 32
      → stored s d (columns lo hi) (Column Block b a8 c) f ≡ spread f (address s d b c + lo) (hi - lo) d.mask (λ _. d.colour)
  -- words read, and in two rows as in one
  pub read_long : (f : ℕ → ℕ) (a n : ℕ) → length (span f a n) ≡ n
  pub read_word : (f : ℕ → ℕ) (a n i : ℕ) → i < n → slice_index (span f a n) i ≡ f (a + i)
  pub read_in_two : (f : ℕ → ℕ) (a n k : ℕ) → span f a (n + k) ≡ span f a n ++ span f (a + n) k
