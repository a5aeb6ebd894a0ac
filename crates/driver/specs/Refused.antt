-- Which requests are turned away.
use Rattle.std.specs.Prelude.{ℕ, ◌-◌, ◌*◌, ◌^◌, cond, ◌||◌, Some, None, Option, ◌==◌, nat_le, nat_lt}
use Rattle.book.specs.declared.refusal.Refusal.{Refusal}
use Rattle.book.specs.declared.refusal.Refusal.TheVariants.{Address, Length, Count}

-- the count is near its end
abbrev pub count_refusal : ℕ → Option Refusal
count_refusal clock = cond (nat_lt (2 ^ 62 - clock) 2000000) (Some Count) None

-- the first refusal that applies to n words from the address a on
abbrev pub refusal : ℕ → ℕ → ℕ → ℕ → Option Refusal
refusal rows clock a n =
    cond (nat_le (rows * 512) a) (Some Address)
    (cond (n == 0 || (nat_lt 256 n || nat_lt (rows * 512 - a) n)) (Some Length) (count_refusal clock))

-- and to a wait of n clocks
abbrev pub wait_refusal : ℕ → ℕ → Option Refusal
wait_refusal clock n = cond (n == 0 || nat_lt 1000000 n) (Some Length) (count_refusal clock)
