-- What a clock makes of an interlock and of the device below it.
use Rattle.std.proofs.Common.{◌≡◌, ℕ, true, Some, None, Ok, Err, Option, sym, refl, ap, ◌∙◌, subst}
use Rattle.rules.specs.declared.pins.Pins.{Pins}
use Rattle.rules.specs.declared.pins.Command.{Command}
use Rattle.rules.specs.declared.fault.Rule.{Rule}
use Rattle.rules.specs.declared.fault.Fault.{Fault}
use Rattle.rules.specs.Pins.{command}
use Rattle.rules.specs.State.{State}
use Rattle.std.specs.Option.{is_some}
use Rattle.rules.specs.Faults.{found}
use Rattle.rules.specs.Step.{step_by, stepped}
use Rattle.rules.specs.Meaning.{Meaning, step, out}
use Rattle.control.specs.declared.moved.Moved.{Moved}
use Rattle.control.specs.Answer.{answer_by, answered}
use Rattle.device.proofs.Fits.{whole, held_step, held_out}
use Rattle.interlock.specs.Guard.{faulted, with_fault, Guards}

-- a clock that is a fault, or comes after one, changes nothing but the fault
fails_by : (x : Option Fault) (y : Option Rule) (s : State) (p : Pins) (c : Command) (f : Fault) → s.fault ≡ x → Err f ≡ answer_by x y s p
    → (step_by x y s p c ≡ faulted s (step_by x y s p c).fault) × (is_some (step_by x y s p c).fault ≡ true)
fails_by (Some g) y s p c f h e = (refl, ap is_some h)
fails_by None (Some k) s p c f h e = (refl, refl)
fails_by None None s p c f h e = cc

-- one that is no fault begins and ends without one
goes_by : (x : Option Fault) (y : Option Rule) (s : State) (p : Pins) (c : Command) (r : Moved) → s.fault ≡ x → Ok r ≡ answer_by x y s p
    → (x ≡ None) × ((step_by x y s p c).fault ≡ None)
goes_by (Some g) y s p c r h e = cc
goes_by None (Some k) s p c r h e = cc
goes_by None None s p c r h e = (refl, h)

apart : {X : Type 0} (f : Option X) → f ≡ None → is_some f ≡ true → ⊥
apart f e h = cc

-- a clock that is a fault, or comes after one
pub held : (m : Meaning) (s t : State) (p : Pins) (f : Fault) → Guards m s → t ≡ stepped s p → Err f ≡ answered s p
    → Guards m t × (with_fault m t.fault ≡ step (with_fault m s.fault) p) × ((0, 0) ≡ out (with_fault m s.fault) p)
    × (t.fault ≡ None → ⊥)
held m s t p f g h e =
    let n : Meaning = with_fault m s.fault in
    let says : Err f ≡ answered n.state p = subst (λ (x : State). Err f ≡ answered x p) g.same e in
    let fails = fails_by n.state.fault (found n.state (command p)) n.state p (command p) f refl says in
    let went : t ≡ stepped n.state p = h ∙ ap (λ (x : State). stepped x p) g.same in
    let fault : t.fault ≡ (stepped n.state p).fault = ap (λ (x : State). x.fault) went in
    let same : t ≡ faulted m.state t.fault = went ∙ fails.0 ∙ ap (faulted m.state) (sym fault) in (
      record { sound = g.sound; same = same },
      whole (sym same ∙ went) refl refl ∙ held_step n p f says,
      held_out n p f says,
      λ none. apart t.fault none (ap is_some fault ∙ fails.1),
    )

-- a clock that is no fault
pub went : (m m' : Meaning) (s t : State) (p : Pins) (r : Moved) (o : ℕ × ℕ)
    → Guards m s → t ≡ stepped s p → Ok r ≡ answered s p → m' ≡ step m p → o ≡ out m p
    → Guards m' t × (with_fault m' t.fault ≡ step (with_fault m s.fault) p) × (o ≡ out (with_fault m s.fault) p)
    × (is_some t.fault ≡ true → ⊥)
unfolding step
went m m' s t p r o g h e after answer =
    let none = goes_by s.fault (found s (command p)) s p (command p) r refl e in
    let is : with_fault m s.fault ≡ m = ap (with_fault m) (none.0 ∙ sym g.sound) in
    let own : s ≡ m.state = g.same ∙ ap (λ (x : Meaning). x.state) is in
    let same : t ≡ m'.state = h ∙ ap (λ (x : State). stepped x p) own ∙ ap (λ (x : Meaning). x.state) (sym after) in
    let clear : t.fault ≡ None = ap (λ (x : State). x.fault) h ∙ none.1 in
    let fault : t.fault ≡ m'.state.fault = ap (λ (x : State). x.fault) same in (
      record { sound = sym fault ∙ clear; same = same ∙ ap (faulted m'.state) (sym fault) },
      ap (with_fault m') fault ∙ after ∙ ap (λ (x : Meaning). step x p) (sym is),
      answer ∙ ap (λ (x : Meaning). out x p) (sym is),
      apart t.fault clear,
    )
