-- The refusals and their numbers.
use Rattle.std.specs.Prelude.{ℕ}
use Rattle.book.specs.declared.refusal.Refusal.{Refusal}
use Rattle.book.specs.declared.refusal.Refusal.TheVariants.{Address, Length, Count}

abbrev pub number_of : Refusal → ℕ
number_of Address = 21
number_of Length = 22
number_of Count = 23
