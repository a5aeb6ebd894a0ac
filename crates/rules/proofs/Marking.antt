-- The refresh marks over a run.
use Rattle.std.proofs.Common.{◌≡◌, ℕ, zero, suc, ◌+◌, ◌≤◌, Bool, true, false, List, [], ◌∷◌, ◌++◌, length, replicate, refl, ◌∙◌, arith, length-append}
use lib.ListN.{length-replicate}
use Rattle.rules.specs.declared.pins.Pins.{Pins}
use Rattle.rules.specs.Pins.{command}
use Rattle.rules.specs.Delay.{passed}
use Rattle.rules.specs.State.{State, ready}
use Rattle.rules.specs.Step.{next_marks, next_steps, is_refresh}
use Rattle.rules.specs.Meaning.{Meaning, switch_on, run}
use Rattle.rules.specs.Laws.{Ascends, NoneAfter, Marks}
use Rattle.rules.proofs.Ways.{run_keeps}
use Rattle.rules.proofs.Runs.{run_sheet}

-- a line keeps its length
pub length_passed : {X : Type 0} (xs : List X) (x : X) → length (passed xs x) ≡ length xs
length_passed [] x = refl
length_passed (y ∷ ys) x = length-append ys (x ∷ []) ∙ omega arith

later : (t u : ℕ) (xs : List ℕ) → t ≤ u → NoneAfter t xs → NoneAfter u xs
later t u [] h k = tt
later t u (x ∷ xs) h k = (omega (arith, k.0), later t u xs h k.1)

after_push : (t : ℕ) (xs : List ℕ) → NoneAfter t xs → NoneAfter t (xs ++ (t ∷ []))
after_push t [] k = (omega arith, tt)
after_push t (x ∷ xs) k = (k.0, after_push t xs k.1)

ascends_push : (t : ℕ) (xs : List ℕ) → NoneAfter t xs → Ascends xs → Ascends (xs ++ (t ∷ []))
ascends_push t [] k h = tt
ascends_push t (x ∷ []) k h = (k.0, tt)
ascends_push t (x ∷ (y ∷ ys)) k h = (h.0, ascends_push t (y ∷ ys) k.1 h.1)

ascends_tail : (x : ℕ) (xs : List ℕ) → Ascends (x ∷ xs) → Ascends xs
ascends_tail x [] h = tt
ascends_tail x (y ∷ ys) h = h.1

-- the oldest mark gives way to the clock that is judged
pub marks_passed : (n t : ℕ) (xs : List ℕ) → Marks n t xs → Marks n (t + 1) (passed xs (t + 1))
marks_passed n t [] h = record { all = h.all; ascend = tt; past = tt }
marks_passed n t (x ∷ xs) h =
    let k : NoneAfter (t + 1) xs = later t (t + 1) xs (omega arith) h.past.1 in
    record {
      all = length_passed (x ∷ xs) (t + 1) ∙ h.all;
      ascend = ascends_push (t + 1) xs k (ascends_tail x xs h.ascend);
      past = after_push (t + 1) xs k;
    }

pub marks_later : (n t : ℕ) (xs : List ℕ) → Marks n t xs → Marks n (t + 1) xs
marks_later n t xs h = record { all = h.all; ascend = h.ascend; past = later t (t + 1) xs (omega arith) h.past }

past_same : (t n : ℕ) → NoneAfter t (replicate n t)
past_same t zero = tt
past_same t (suc n) = (omega arith, past_same t n)

ascends_same : (t n : ℕ) → Ascends (replicate n t)
ascends_same t zero = tt
ascends_same t (suc zero) = tt
ascends_same t (suc (suc n)) = (omega arith, ascends_same t (suc n))

pub marks_first : (n t : ℕ) → Marks n t (replicate n t)
marks_first n t = record { all = length-replicate n t; ascend = ascends_same t n; past = past_same t n }

-- the marks of a state, once power-up has ended
abbrev pub Marked : State → Type 0
Marked s = ready s.steps ≡ true → Marks s.sheet.n s.clock s.marks

pub marks_next : (was will refresh : Bool) (n t : ℕ) (xs : List ℕ) → (was ≡ true → Marks n t xs) → will ≡ true
    → Marks n (t + 1) (next_marks was will refresh n (t + 1) xs)
marks_next true will true n t xs h e = marks_passed n t xs (h refl)
marks_next true will false n t xs h e = marks_later n t xs (h refl)
marks_next false true refresh n t xs h e = marks_first n (t + 1)
marks_next false false refresh n t xs h e = let z : ◌≡◌ {A = ℕ} 0 1 = cc in absurd (omega arith)

pub run_marked : (m : Meaning) (ps : List Pins) → Marked m.state → Marked (run m ps).state
run_marked = run_keeps (λ m. Marked m.state) (λ m k h. h)
    (λ m p e z h. marks_next (ready m.state.steps) (ready (next_steps m.state.steps (command p))) (is_refresh (command p)) m.state.sheet.n m.state.clock m.state.marks h)

on_marked : (m : Meaning) → Marked (switch_on m).state
on_marked m e = let z : ◌≡◌ {A = ℕ} 0 1 = cc in absurd (omega arith)

pub marks_kept : (m : Meaning) (ps : List Pins) → ready (run (switch_on m) ps).state.steps ≡ true
    → Marks m.state.sheet.n (run (switch_on m) ps).state.clock (run (switch_on m) ps).state.marks
marks_kept m ps e =
    let h = run_marked (switch_on m) ps (on_marked m) e in
    rw (run_sheet (switch_on m) ps) at h
