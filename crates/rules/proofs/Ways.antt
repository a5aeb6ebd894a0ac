-- The three ways of a clock: after a fault, at a fault, and with none; and what every clock keeps, every run keeps.
use Rattle.std.proofs.Common.{◌≡◌, ℕ, true, false, List, [], ◌∷◌, Some, None, Option, sym, refl, ap, ◌∙◌, subst, arith}
use Rattle.rules.specs.declared.pins.Pins.{Pins}
use Rattle.rules.specs.declared.fault.Rule.{Rule}
use Rattle.rules.specs.declared.fault.Fault.{Fault}
use Rattle.rules.specs.Pins.{command}
use Rattle.rules.specs.Delay.{passed}
use Rattle.std.specs.Option.{is_some}
use Rattle.rules.specs.Faults.{found}
use Rattle.rules.specs.Step.{moved, failed, step_by}
use Rattle.rules.specs.Cells.{work_at, done, taken}
use Rattle.rules.specs.Meaning.{Meaning, if_moved, step, shown, out, run}

-- the meaning after a clock that breaks rule k
abbrev pub failed_at : Meaning → Rule → Meaning
failed_at m k = record { state = failed m.state k; words = m.words; cells = m.cells }

-- the meaning after a clock that is no fault
abbrev pub moved_by : Meaning → Pins → Meaning
moved_by m p = record {
  state = moved m.state p (command p);
  words = passed m.words (taken (work_at m.state p) m.cells);
  cells = done (work_at m.state p) m.cells;
}

-- a clock, with the old fault and the rule that it breaks taken out
abbrev by : Option Fault → Option Rule → Meaning → Pins → Meaning
by f k m p = record {
  state = step_by f k m.state p (command p);
  words = if_moved f k (moved_by m p).words m.words;
  cells = if_moved f k (moved_by m p).cells m.cells;
}

pub no_fault : {X : Type 0} (f : Option X) → is_some f ≡ false → f ≡ None
no_fault None e = refl
no_fault (Some x) e = let z : ◌≡◌ {A = ℕ} 0 1 = cc in absurd (omega arith)

by_held : (f : Option Fault) (k : Option Rule) (m : Meaning) (p : Pins) → is_some f ≡ true → by f k m p ≡ m
by_held None k m p e = let z : ◌≡◌ {A = ℕ} 0 1 = cc in absurd (omega arith)
by_held (Some f) k m p e = refl

if_held : {X : Type 0} (f : Option Fault) (k : Option Rule) (x y : X) → is_some f ≡ true → if_moved f k x y ≡ y
if_held None k x y e = let z : ◌≡◌ {A = ℕ} 0 1 = cc in absurd (omega arith)
if_held (Some f) k x y e = refl

-- after a fault
pub step_held : (m : Meaning) (p : Pins) → is_some m.state.fault ≡ true → step m p ≡ m
unfolding step
step_held m p e = by_held m.state.fault (found m.state (command p)) m p e

pub out_held : (m : Meaning) (p : Pins) → is_some m.state.fault ≡ true → out m p ≡ (0, 0)
unfolding out
out_held m p e = if_held m.state.fault (found m.state (command p)) (shown m) (0, 0) e

-- at a fault
pub step_failed : (m : Meaning) (p : Pins) (k : Rule) → m.state.fault ≡ None → found m.state (command p) ≡ Some k
    → step m p ≡ failed_at m k
unfolding step
step_failed m p k e h = ap (λ f. by f (found m.state (command p)) m p) e ∙ ap (λ r. by None r m p) h

pub out_failed : (m : Meaning) (p : Pins) (k : Rule) → m.state.fault ≡ None → found m.state (command p) ≡ Some k
    → out m p ≡ (0, 0)
unfolding out
out_failed m p k e h =
    ap (λ f. if_moved f (found m.state (command p)) (shown m) (0, 0)) e ∙ ap (λ r. if_moved None r (shown m) (0, 0)) h

-- with no fault
pub step_moved : (m : Meaning) (p : Pins) → m.state.fault ≡ None → found m.state (command p) ≡ None → step m p ≡ moved_by m p
unfolding step
step_moved m p e h = ap (λ f. by f (found m.state (command p)) m p) e ∙ ap (λ r. by None r m p) h

pub out_moved : (m : Meaning) (p : Pins) → m.state.fault ≡ None → found m.state (command p) ≡ None → out m p ≡ shown m
unfolding out
out_moved m p e h =
    ap (λ f. if_moved f (found m.state (command p)) (shown m) (0, 0)) e ∙ ap (λ r. if_moved None r (shown m) (0, 0)) h

-- each clock goes one of the three ways
pub data Way (m : Meaning) (p : Pins) : Type 0 where
  way_held : is_some m.state.fault ≡ true → Way m p
  way_failed : (k : Rule) → m.state.fault ≡ None → found m.state (command p) ≡ Some k → Way m p
  way_moved : m.state.fault ≡ None → found m.state (command p) ≡ None → Way m p

pub way : (m : Meaning) (p : Pins) → Way m p
way m p = go m.state.fault (found m.state (command p)) refl refl
  where
    go : (f : Option Fault) (k : Option Rule) → m.state.fault ≡ f → found m.state (command p) ≡ k → Way m p
    go (Some f) k e h = way_held (ap is_some e)
    go None (Some k) e h = way_failed k e h
    go None None e h = way_moved e h

-- what a fault keeps, and every clock that is no fault, a clock keeps
pub step_keeps : (P : Meaning → Type 0) → ((m : Meaning) (k : Rule) → P m → P (failed_at m k))
    → ((m : Meaning) (p : Pins) → m.state.fault ≡ None → found m.state (command p) ≡ None → P m → P (moved_by m p))
    → (m : Meaning) (p : Pins) → P m → P (step m p)
step_keeps P fails moves m p h = elim (way m p) [
  | way_held e ↦ subst P (sym (step_held m p e)) h
  | way_failed k e f ↦ subst P (sym (step_failed m p k e f)) (fails m k h)
  | way_moved e f ↦ subst P (sym (step_moved m p e f)) (moves m p e f h)
]

-- and so does a list of clocks
pub run_keeps : (P : Meaning → Type 0) → ((m : Meaning) (k : Rule) → P m → P (failed_at m k))
    → ((m : Meaning) (p : Pins) → m.state.fault ≡ None → found m.state (command p) ≡ None → P m → P (moved_by m p))
    → (m : Meaning) (ps : List Pins) → P m → P (run m ps)
run_keeps P fails moves m [] h = h
run_keeps P fails moves m (p ∷ ps) h = run_keeps P fails moves (step m p) ps (step_keeps P fails moves m p h)
