use Rattle.std.proofs.Common.{◌≡◌, ◌+◌, ◌-◌, ◌*◌, ◌^◌, ◌<◌, get_or}
use Rattle.rules.specs.Words.{bit}
use Rattle.cells.specs.Planes.{number}
use Rattle.cells.proofs.planes.gather.Given as goal

abbrev pub invariant-loop-i : goal.invariant-loop-i
invariant-loop-i l =
    (l.found ≡ number (λ j. bit (get_or l.bytes (l.at + 64 * (l.i + j)) 0) l.k) (32 - l.i)) × (l.found < 2 ^ (32 - l.i))
