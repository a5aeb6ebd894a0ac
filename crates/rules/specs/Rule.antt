-- The numbers of the faults.
use Rattle.std.specs.Prelude.{ℕ}
use Rattle.rules.specs.declared.fault.Rule.{Rule}
use Rattle.rules.specs.declared.fault.Rule.TheVariants.{CountEnd, Retention, RowTime, PowerUp, Recovery, Operand, Misplaced, Distance, Contention}

abbrev pub number_of : Rule → ℕ
number_of CountEnd = 11
number_of Retention = 12
number_of RowTime = 13
number_of PowerUp = 14
number_of Recovery = 15
number_of Operand = 16
number_of Misplaced = 17
number_of Distance = 18
number_of Contention = 19
