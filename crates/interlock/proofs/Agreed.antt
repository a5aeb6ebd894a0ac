-- Two devices that are switched on with equal sheets and equal cells stay in step.
use Rattle.std.proofs.Common.{◌≡◌, ℕ, ◌/◌, ◌%◌, true, cond, eqb, List, [], ◌∷◌, replicate, Some, None, sym, refl, ap, ◌∙◌, subst}
use lib.Bits.{bit_and}
use Rattle.sheet.specs.declared.sheet.Sheet.{Sheet}
use Rattle.rules.specs.declared.pins.Pins.{Pins}
use Rattle.rules.specs.declared.state.Work.{Work}
use Rattle.rules.specs.declared.state.Work.TheVariants.{Nothing, Take, Store, Paint}
use Rattle.rules.specs.Words.{put, wide, chosen}
use Rattle.rules.specs.Pins.{command}
use Rattle.rules.specs.State.{State, switched_on}
use Rattle.std.specs.Option.{is_some}
use Rattle.rules.specs.Delay.{passed}
use Rattle.rules.specs.Faults.{found}
use Rattle.rules.specs.Step.{moved, failed}
use Rattle.rules.specs.Cells.{work_at, done, taken}
use Rattle.rules.specs.Meaning.{Meaning, moves, shown, step, out, switch_on, run, outs}
use Rattle.rules.proofs.Ways.{moved_by, way, way_held, way_failed, way_moved, step_held, step_failed, step_moved}
use Rattle.interlock.specs.Agree.{Matched, Agree}
use Rattle.interlock.proofs.Placed.{Placed, placed_on, placed_moved, SameWords, taken_same}

-- what each clock keeps
record InStep (m n : Meaning) : Type 0 where
  state : m.state ≡ n.state
  words : m.words ≡ n.words
  cells : SameWords m.state.sheet.rows m.cells n.cells
  placed : Placed m.state

-- what becomes of a word depends on that word alone
done_same : (w : Work) (f g : ℕ → ℕ) (x : ℕ) → f x ≡ g x → done w f x ≡ done w g x
done_same Nothing f g x e = e
done_same (Take a) f g x e = e
done_same (Store a mask word) f g x e = ap (λ (y : ℕ). cond (eqb x a) (put mask word y) y) e
done_same (Paint a columns mask colour) f g x e =
    ap (λ (y : ℕ). cond (eqb (x / 8) (a / 8)) (put (bit_and (wide (chosen columns (x % 8))) mask) colour y) y) e

moved_in_step : (m n : Meaning) (p : Pins) → found m.state (command p) ≡ None → InStep m n → InStep (moved_by m p) (moved_by n p)
moved_in_step m n p e h =
    let s : State = m.state in
    let word : taken (work_at s p) m.cells ≡ taken (work_at n.state p) n.cells =
    taken_same s p m.cells n.cells h.placed h.cells ∙ ap (λ (t : State). taken (work_at t p) n.cells) h.state in
    record {
      state = ap (λ (t : State). moved t p (command p)) h.state;
      words = λ i. passed (h.words i) (word i);
      cells = λ a k. done_same (work_at s p) m.cells n.cells a (h.cells a k) ∙ ap (λ (t : State). done (work_at t p) n.cells a) h.state;
      placed = placed_moved s p e h.placed;
    }

both : (m m' n n' : Meaning) → m ≡ m' → n ≡ n' → InStep m' n' → InStep m n
both m m' n n' p q h = subst (λ (x : Meaning). InStep x n) (sym p) (subst (λ (x : Meaning). InStep m' x) (sym q) h)

-- and one way of the clock is the other's
also : {X : Type 0} (m n : Meaning) (see : State → X) (x : X) → InStep m n → see m.state ≡ x → see n.state ≡ x
also m n see x h e = ap see (sym h.state) ∙ e

step_in : (m n : Meaning) (p : Pins) → InStep m n → InStep (step m p) (step n p)
step_in m n p h = elim (way m p) [
  | way_held e ↦ both _ m _ n (step_held m p e) (step_held n p (also m n (λ s. is_some s.fault) true h e)) h
  | way_failed k e f ↦
      both _ _ _ _ (step_failed m p k e f) (step_failed n p k (also m n (λ s. s.fault) None h e) (also m n (λ s. found s (command p)) (Some k) h f))
      (record {
        state = ap (λ (t : State). failed t k) h.state;
        words = h.words;
        cells = h.cells;
        placed = record { a = h.placed.a; b = h.placed.b; burst = h.placed.burst };
      })
  | way_moved e f ↦
      both _ _ _ _ (step_moved m p e f) (step_moved n p (also m n (λ s. s.fault) None h e) (also m n (λ s. found s (command p)) None h f))
      (moved_in_step m n p f h)
]

out_in : (m n : Meaning) (p : Pins) → InStep m n → out m p ≡ out n p
unfolding out
out_in m n p h = λ i. moves (h.state i) p (shown (record { state = h.state i; words = h.words i; cells = m.cells })) (0, 0)

run_in : (m n : Meaning) (ps : List Pins) → InStep m n → InStep (run m ps) (run n ps)
run_in m n [] h = h
run_in m n (p ∷ ps) h = run_in (step m p) (step n p) ps (step_in m n p h)

outs_in : (m n : Meaning) (ps : List Pins) → InStep m n → outs m ps ≡ outs n ps
outs_in m n [] h = refl
outs_in m n (p ∷ ps) h = λ i. out_in m n p h i ∷ outs_in (step m p) (step n p) ps (step_in m n p h) i

start : (m n : Meaning) → Matched m n → InStep (switch_on m) (switch_on n)
start m n h = record {
  state = ap switched_on h.sheet;
  words = ap (λ (s : Sheet). replicate s.cl 0) h.sheet;
  cells = h.cells;
  placed = placed_on m.state.sheet;
}

pub devices_agree : (m n : Meaning) (ps : List Pins) → Matched m n → Agree m n ps
devices_agree m n ps h =
    let s = start m n h in
    let e = run_in (switch_on m) (switch_on n) ps s in
    record {
      answers = outs_in (switch_on m) (switch_on n) ps s;
      state = e.state;
      words = e.words;
      alike = record { rows = ap (λ (t : State). t.sheet.rows) e.state; cells = e.cells; fault = ap (λ (t : State). t.fault) e.state };
    }
