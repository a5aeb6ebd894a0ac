use Rattle.std.proofs.Common.{◌≡◌, ◌^◌, ◌<◌, drop}
use Rattle.trace.specs.Digits.{number_after}
use Rattle.trace.proofs.digits.number.Given as goal

-- the digits that are left, after those read, write what all of them do
abbrev pub invariant-loop-b : goal.invariant-loop-b
invariant-loop-b l =
    (number_after l.base l.value (drop l.b-index l.digits) ≡ number_after l.base 0 l.digits)
    × (l.value < 16 ^ l.b-index)
