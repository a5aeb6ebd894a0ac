use Rattle.std.specs.Prelude.{Bool, true, Some, None, Option, nat_lt}
use Rattle.rules.specs.declared.state.Burst.{Burst}
use Rattle.rules.specs.State.{beats_in}

-- the beat that is due is one of the burst's
abbrev pub within : Option Burst → Bool
within None = true
within (Some u) = nat_lt u.next (beats_in u.mode.length)
