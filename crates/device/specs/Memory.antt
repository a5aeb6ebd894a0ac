-- Whether memory serves a sheet.
use Rattle.std.specs.Prelude.{ℕ, cond, Ok, Err, Result, nat_le}
use Rattle.device.specs.declared.memory.MemoryError.{MemoryError}
use Rattle.device.specs.declared.memory.MemoryError.TheVariants.{Short}

abbrev pub number_of : MemoryError → ℕ
number_of Short = 3

-- 0, or the number of the refusal
abbrev pub answer : Result (Unit {0}) MemoryError → ℕ
answer (Ok u) = 0
answer (Err e) = number_of e

-- what the rows need, and what there is
abbrev pub verdict : ℕ → ℕ → ℕ
verdict needed given = cond (nat_le needed given) 0 (number_of Short)
