use Rattle.std.proofs.Common.{◌≡◌, ℕ, ◌+◌, ◌/◌, ◌^◌, ◌<◌, ◌≤◌, length, decimal, arith, length-append, rules}
use Rattle.std.proofs.lemmas.Fmt.{decimal_digit, decimal_step}
use Rattle.verdict.proofs.Joins.{writes_both}
use Rattle.verdict.proofs.writing.Page.+decimal.Goals as goal

-- how long a number of one digit is, and one of more
one : (n : ℕ) → n < 10 → length (decimal n) ≡ 1
one n h = rw (decimal_digit n h)

more : (n : ℕ) → 10 ≤ n → n < 2 ^ 64 → length (decimal n) ≡ length (decimal (n / 10)) + 1
more n h f = rw (decimal_step n h f) (simp length-append)

pub byte-requires : goal.byte-requires
byte-requires t c = omega (arith, one c.args.value c.if-value-lt10.true)

pub returns-then-value-lt10 : goal.returns-then-value-lt10
returns-then-value-lt10 t c = rw (decimal_digit c.args.value c.if-value-lt10.true) c.byte.ensures

pub decimal-requires : goal.decimal-requires
decimal-requires t c = omega (arith, more c.args.value c.if-value-lt10.false (search rules))

pub byte-requires-else-value-lt10 : goal.byte-requires-else-value-lt10
byte-requires-else-value-lt10 t c = omega (arith, more c.args.value c.if-value-lt10.false (search rules))

pub returns-else-value-lt10 : goal.returns-else-value-lt10
returns-else-value-lt10 t c =
    rw (decimal_step c.args.value c.if-value-lt10.false (search rules)) (writes_both c.decimal.ensures c.byte-else-value-lt10.ensures)
