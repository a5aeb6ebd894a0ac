-- The book: what a user knows who feeds it each request, and the clocks that an accepted one answers.
use Rattle.std.specs.Prelude.{ℕ, ◌+◌, ◌-◌, ◌*◌, ◌^◌, ◌≤◌, Bool, ◌||◌, [], ◌∷◌, length, Option, ◌==◌, nat_le, nat_lt, slice_index}
use Rattle.rules.specs.Faults.{first}
use Rattle.schedule.specs.Stretch.{span}
use Rattle.schedule.specs.Spread.{spread}
use Rattle.pen.specs.Reach.{reach}
use Rattle.book.specs.declared.refusal.Refusal.{Refusal}
use Rattle.book.specs.declared.refusal.Refusal.TheVariants.{Address, Length, Count}
use Rattle.book.specs.Asks.{Ask, read, write, fill, wait}

pub record Book : Type 0 where
  pub rows : ℕ
  -- a word for each address
  pub words : ℕ → ℕ
  pub clock : ℕ

-- the count is near its end
abbrev pub spent : ℕ → Bool
spent clock = nat_lt (2 ^ 62 - clock) 2000000

-- the first refusal that applies to n words from the address a on, in a device of so many rows
abbrev pub words_refusal : ℕ → ℕ → ℕ → ℕ → Option Refusal
words_refusal rows clock a n =
    first ((Address, nat_le (rows * 512) a) ∷ ((Length, (n == 0) || (nat_lt 256 n || nat_lt (rows * 512) (a + n))) ∷ ((Count, spent clock) ∷ [])))

-- and to a wait of n clocks
abbrev pub wait_refusal : ℕ → ℕ → Option Refusal
wait_refusal clock n = first ((Length, (n == 0) || nat_lt 1000000 n) ∷ ((Count, spent clock) ∷ []))

abbrev pub refusal : Book → Ask → Option Refusal
refusal b (read x ws) = words_refusal b.rows b.clock x (length ws)
refusal b (write p x ws) = words_refusal b.rows b.clock x (length ws)
refusal b (fill p x n) = words_refusal b.rows b.clock x n
refusal b (wait n) = wait_refusal b.clock n

-- the words after an accepted request
abbrev pub words_after : (ℕ → ℕ) → Ask → ℕ → ℕ
words_after f (read x ws) = f
words_after f (write p x ws) = spread f x (length ws) (reach p) (λ j. slice_index ws j)
words_after f (fill p x n) = spread f x n (reach p) (λ _. p.colour)
words_after f (wait n) = f

-- the book after an accepted request that answered n clocks
abbrev pub fed : Book → Ask → ℕ → Book
fed b q n = record { rows = b.rows; words = words_after b.words q; clock = b.clock + n }

-- an accepted request afterwards: a read's buffer holds the book's words
abbrev pub told : Book → Ask → Ask
told b (read x ws) = read x (span b.words x (length ws))
told b (write p x ws) = write p x ws
told b (fill p x n) = fill p x n
told b (wait n) = wait n

-- the clocks that an accepted request may answer
abbrev pub Timed : Ask → ℕ → Type 0
Timed (read x ws) n = n ≤ 700
Timed (write p x ws) n = n ≤ 700
Timed (fill p x k) n = n ≤ 700
Timed (wait k) n = (k ≤ n) × (n ≤ k + 200)
