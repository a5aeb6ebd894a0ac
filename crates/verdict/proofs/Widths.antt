-- How much room the numbers take.
use Rattle.std.proofs.Common.{◌≡◌, ℕ, ◌<◌, ◌≤◌, length, decimal, arith, lit<}
use Rattle.std.proofs.lemmas.Fmt.{length-decimal-le}
use Rattle.rules.specs.declared.fault.Rule.{Rule}
use Rattle.rules.specs.declared.fault.Rule.TheVariants.{CountEnd, Retention, RowTime, PowerUp, Recovery, Operand, Misplaced, Distance, Contention}
use Rattle.rules.specs.Rule.{number_of}

pub four_digits : (n : ℕ) → n < 10000 → length (decimal n) ≤ 4
four_digits n h = length-decimal-le 4 n (omega arith) h (omega arith)

pub five_digits : (n : ℕ) → n < 65536 → length (decimal n) ≤ 5
five_digits n h = length-decimal-le 5 n (omega arith) (omega arith) (omega arith)

pub two_digits : (n : ℕ) → n < 100 → length (decimal n) ≤ 2
two_digits n h = length-decimal-le 2 n (omega arith) h (omega arith)

pub rule_small : (k : Rule) → number_of k < 100
rule_small CountEnd = lit< tt
rule_small Retention = lit< tt
rule_small RowTime = lit< tt
rule_small PowerUp = lit< tt
rule_small Recovery = lit< tt
rule_small Operand = lit< tt
rule_small Misplaced = lit< tt
rule_small Distance = lit< tt
rule_small Contention = lit< tt

pub rule_digits : (k : Rule) (n : ℕ) → n ≡ number_of k → length (decimal n) ≤ 2
rule_digits k n e = two_digits n (omega (arith, rule_small k))
