-- What a recorder keeps.
use Rattle.std.specs.Prelude.{◌≡◌, List, [], ◌∷◌, ◌++◌, Option, Some, None, vec_items}
use Rattle.std.specs.Global.{Vec}
use Rattle.rules.specs.declared.pins.Pins.{Pins}
use Rattle.rules.specs.Meaning.{Meaning, switch_on, run}

-- what clauses see of a recorder: the device below, and the pins of every clock since switch-on, if none was lost
pub record Record (D : Type 0) : Type 0 where
  pub below : D
  pub pins : Option (Vec Pins)

-- a recorder means what the device below means
abbrev pub below_meaning : {D : Type 0} → (D → Meaning) → Record D → Meaning
below_meaning meaning r = meaning r.below

abbrev pub below_reachable : {D : Type 0} → (D → Type 0) → Record D → Type 0
below_reachable reachable r = reachable r.below

-- m is a device that was switched on and given just these clocks
pub record Led (m : Meaning) (ps : List Pins) : Type 0 where
  pub from : Meaning
  pub leads : m ≡ run (switch_on from) ps

-- the device m has had just the clocks that are kept, if they are
abbrev pub Kept : Meaning → Option (Vec Pins) → Type 0
Kept m None = Unit {0}
Kept m (Some v) = Led m (vec_items v)

-- what is kept after one more clock
abbrev pub Extended : Option (Vec Pins) → Pins → Option (Vec Pins) → Type 0
Extended x p None = Unit {0}
Extended None p (Some w) = ⊥
Extended (Some v) p (Some w) = vec_items w ≡ vec_items v ++ (p ∷ [])
