-- Lists of clocks: joined, after a fault, counted, and up to the first fault.
use Rattle.std.proofs.Common.{◌≡◌, ◌+◌, true, List, [], ◌∷◌, ◌++◌, length, replicate, Some, None, Option, sym, refl, ap, ◌∙◌, add-zero, arith}
use Rattle.rules.specs.declared.pins.Pins.{Pins}
use Rattle.rules.specs.declared.fault.Fault.{Fault}
use Rattle.rules.specs.Pins.{command}
use Rattle.std.specs.Option.{is_some}
use Rattle.rules.specs.Faults.{found, next_clock}
use Rattle.rules.specs.Meaning.{Meaning, step, out, run, outs}
use Rattle.rules.specs.Laws.{Broken}
use Rattle.rules.proofs.Ways.{failed_at, way, way_held, way_failed, way_moved, step_held, out_held, step_failed, step_moved, run_keeps}

pub run_join : (m : Meaning) (ps qs : List Pins) → run m (ps ++ qs) ≡ run (run m ps) qs
run_join m [] qs = refl
run_join m (p ∷ ps) qs = run_join (step m p) ps qs

pub outs_join : (m : Meaning) (ps qs : List Pins) → outs m (ps ++ qs) ≡ outs m ps ++ outs (run m ps) qs
outs_join m [] qs = refl
outs_join m (p ∷ ps) qs = ap (λ os. out m p ∷ os) (outs_join (step m p) ps qs)

-- after a fault
pub run_held : (m : Meaning) (ps : List Pins) → is_some m.state.fault ≡ true → run m ps ≡ m
run_held m [] e = refl
run_held m (p ∷ ps) e = ap (λ n. run n ps) (step_held m p e) ∙ run_held m ps e

pub outs_held : (m : Meaning) (ps : List Pins) → is_some m.state.fault ≡ true → outs m ps ≡ replicate (length ps) (0, 0)
outs_held m [] e = refl
outs_held m (p ∷ ps) e =
    let more : outs (step m p) ps ≡ replicate (length ps) (0, 0) = ap (λ n. outs n ps) (step_held m p e) ∙ outs_held m ps e in
    λ i. out_held m p e i ∷ more i

apart : {X : Type 0} (x : X) → Some x ≡ None → ⊥
apart x e = cc

same : {X : Type 0} (x y : X) → Some x ≡ Some y → x ≡ y
same x y e = cc

held_apart : {X : Type 0} (f : Option X) → is_some f ≡ true → f ≡ None → ⊥
held_apart f e h = cc

-- a run that ends without a fault began without one, and so does a clock, which then breaks no rule
pub run_sound : (m : Meaning) (ps : List Pins) → (run m ps).state.fault ≡ None → m.state.fault ≡ None
run_sound m ps e = go m.state.fault refl
  where
    go : (f : Option Fault) → m.state.fault ≡ f → f ≡ None
    go None h = refl
    go (Some f) h = absurd (apart f (sym h ∙ ap (λ n. n.state.fault) (sym (run_held m ps (ap is_some h))) ∙ e))

pub step_sound : (m : Meaning) (p : Pins) → (step m p).state.fault ≡ None → (m.state.fault ≡ None) × (found m.state (command p) ≡ None)
step_sound m p e = elim (way m p) [
  | way_held h ↦ absurd (held_apart m.state.fault h (run_sound m (p ∷ []) e))
  | way_failed k h f ↦ absurd (apart _ (ap (λ n. n.state.fault) (sym (step_failed m p k h f)) ∙ e))
  | way_moved h f ↦ (h, f)
]

-- the count
pub clock_moved : (m : Meaning) (p : Pins) → (step m p).state.fault ≡ None → (step m p).state.clock ≡ m.state.clock + 1
clock_moved m p e = let h = step_sound m p e in ap (λ n. n.state.clock) (step_moved m p h.0 h.1)

pub clock_adds : (m : Meaning) (ps : List Pins) → (run m ps).state.fault ≡ None → (run m ps).state.clock ≡ m.state.clock + length ps
clock_adds m [] e = sym (add-zero m.state.clock)
clock_adds m (p ∷ ps) e =
    let one = clock_moved m p (run_sound (step m p) ps e) in
    let more = clock_adds (step m p) ps e in
    omega arith

pub clock_stays : (m : Meaning) (p : Pins) → is_some (step m p).state.fault ≡ true → (step m p).state.clock ≡ m.state.clock
clock_stays m p e = elim (way m p) [
  | way_held h ↦ ap (λ n. n.state.clock) (step_held m p h)
  | way_failed k h f ↦ ap (λ n. n.state.clock) (step_failed m p k h f)
  | way_moved h f ↦ absurd (held_apart (step m p).state.fault e (ap (λ n. n.state.fault) (step_moved m p h f) ∙ h))
]

-- a fault names the clock after the count
abbrev pub Named : Meaning → Type 0
Named m = (f : Fault) → m.state.fault ≡ Some f → f.clock ≡ m.state.clock + 1

pub run_names : (m : Meaning) (ps : List Pins) → Named m → Named (run m ps)
run_names = run_keeps Named
    (λ m k h f e. ap (λ g. g.clock) (sym (same (record { rule = k; clock = next_clock m.state }) f e)))
    (λ m p e z h f g. absurd (apart f (sym g ∙ e)))

pub clock_named : (m : Meaning) (ps : List Pins) (f : Fault) → m.state.fault ≡ None → (run m ps).state.fault ≡ Some f
    → f.clock ≡ (run m ps).state.clock + 1
clock_named m ps f e = run_names m ps (λ g h. absurd (apart g (sym h ∙ e))) f

-- the first fault of a run
pub first_fault : (m : Meaning) (ps : List Pins) (f : Fault) → m.state.fault ≡ None → (run m ps).state.fault ≡ Some f → Broken m ps f
first_fault m [] f e h = absurd (apart f (sym h ∙ e))
first_fault m (p ∷ ps) f e h = elim (way m p) [
  | way_held g ↦ absurd (held_apart m.state.fault g e)
  | way_failed k g b ↦
      let n = step_failed m p k g b in
      let stays : run (step m p) ps ≡ failed_at m k = ap (λ x. run x ps) n ∙ run_held (failed_at m k) ps refl in
      let is : ◌≡◌ {A = Fault} (record { rule = k; clock = next_clock m.state }) f = same _ f (ap (λ x. x.state.fault) (sym stays) ∙ h) in
      record {
        before = [];
        at = p;
        after = ps;
        parts = refl;
        sound = g;
        breaks = b ∙ ap (λ x. Some x.rule) is;
        clock = omega (arith, ap (λ x. x.clock) is);
      }
  | way_moved g b ↦
      let n = step_moved m p g b in
      let x = first_fault (step m p) ps f (ap (λ y. y.state.fault) n ∙ g) h in
      record {
        before = p ∷ x.before;
        at = x.at;
        after = x.after;
        parts = ap (λ qs. p ∷ qs) x.parts;
        sound = x.sound;
        breaks = x.breaks;
        clock = omega (arith, x.clock, ap (λ y. y.state.clock) n);
      }
]

pub fault_lasts : (m : Meaning) (ps : List Pins) (f : Fault) → Broken m ps f → (run m ps).state.fault ≡ Some f
fault_lasts m ps f x =
    let n : Meaning = run m x.before in
    let failed : step n x.at ≡ failed_at n f.rule = step_failed n x.at f.rule x.sound x.breaks in
    let stays : run m ps ≡ failed_at n f.rule =
    ap (run m) x.parts ∙ run_join m x.before (x.at ∷ x.after) ∙ ap (λ y. run y x.after) failed
    ∙ run_held (failed_at n f.rule) x.after refl in
    let clock : next_clock n.state ≡ f.clock = omega (arith, clock_adds m x.before x.sound, x.clock) in
    ap (λ y. y.state.fault) stays ∙ ap (λ t. Some (record { rule = f.rule; clock = t })) clock

-- the sheet stays
pub run_sheet : (m : Meaning) (ps : List Pins) → (run m ps).state.sheet ≡ m.state.sheet
run_sheet m ps = run_keeps (λ n. n.state.sheet ≡ m.state.sheet) (λ n k h. h) (λ n p e z h. h) m ps refl
