-- What a driver at rest keeps, out of its type.
use Rattle.std.proofs.Common.{◌≡◌, ℕ, Some, None, Option, ap}
use Rattle.std.specs.Coded.{Unit-prop, le_prop, Coded-set, coded_bool}
use Rattle.std.proofs.Math.Logic.{∥∥₁_elim}
use Rattle.std.specs.Option.{is_some}
use Rattle.rules.specs.Meaning.{Meaning}
use Rattle.rules.proofs.Ways.{no_fault}
use Rattle.schedule.specs.declared.ledger.Ledger.{Ledger}
use Rattle.schedule.specs.Budget.{Recent, DueSoon}
use Rattle.schedule.proofs.Obeying.{says}
use Rattle.sequences.specs.Held.{Held}
use Rattle.sequences.specs.Gone.{Stands}
use Rattle.driver.specs.States.{Rest}

recent_prop : (n : ℕ) (x : Option ℕ) (o t : ℕ) → IsProp (Recent n x o t)
recent_prop n None o t = Unit-prop
recent_prop n (Some r) o t = le_prop

soon_prop : (d : Ledger) → IsProp (DueSoon d)
soon_prop d x y = λ i. record {
  passed = le_prop x.passed y.passed i;
  due = le_prop x.due y.due i;
  recent_a = recent_prop 1724 d.a.row d.a.opened d.clock x.recent_a y.recent_a i;
  recent_b = recent_prop 1724 d.b.row d.b.opened d.clock x.recent_b y.recent_b i;
}

module _ {D : Type 0} {reachable : D → Type 0} {meaning : D → Meaning} where
  pub soon_of : (s : Held D) → ∥ Rest reachable meaning s ∥₁ → DueSoon s.ledger
  soon_of s r = ∥∥₁_elim r (soon_prop s.ledger) (λ x. x.soon)

  pub rest_of : {s : Held D} → Stands reachable meaning s → DueSoon s.ledger → ∥ Rest reachable meaning s ∥₁
  rest_of r d = ∣ record { stands = r; soon = d } ∣₁

  -- no rule was broken
  pub sound_of : (s : Held D) → ∥ Rest reachable meaning s ∥₁ → (meaning s.device).state.fault ≡ None
  sound_of s r = no_fault _ (∥∥₁_elim r (Coded-set coded_bool _ _) (λ x. ap is_some (says.sound _ _ _ _ x.stands.rests)))
