-- Memory that holds all rows, and what a clock makes of a device's meaning.
use Rattle.std.proofs.Common.{◌≡◌, ℕ, ◌+◌, ◌*◌, ◌/◌, ◌<◌, ◌≤◌, min, List, [], ◌∷◌, length, get_or, take, drop, Ok, Err, sym, refl, ap, ◌∙◌, subst, mul_comm, le-div_iff_mul-le}
use native.Mathlib.Nat.{min-eq_left}
use lib.Bits.{bit_and}
use Rattle.std.proofs.lemmas.List.{take_more}
use Rattle.sheet.specs.declared.sheet.Sheet.{Sheet}
use Rattle.sheet.specs.Lowered.{lowered}
use Rattle.sheet.proofs.Same.{same_sheet}
use Rattle.rules.specs.declared.pins.Level.TheVariants.{Low}
use Rattle.rules.specs.declared.pins.Pins.{Pins}
use Rattle.rules.specs.declared.fault.Fault.{Fault}
use Rattle.rules.specs.declared.state.Work.{Work}
use Rattle.rules.specs.Words.{wide}
use Rattle.rules.specs.State.{State}
use Rattle.rules.specs.Delay.{passed, leaving}
use Rattle.rules.specs.Faults.{lanes_now}
use Rattle.rules.specs.Step.{stepped}
use Rattle.rules.specs.Cells.{work_at, done, taken}
use Rattle.rules.specs.Meaning.{Meaning, step, out, shown, run}
use Rattle.rules.proofs.Runs.{run_join}
use Rattle.control.specs.declared.moved.Moved.{Moved}
use Rattle.control.specs.Answer.{answered}
use Rattle.control.proofs.Tells.{stays, goes, told, sheet_kept}
use Rattle.cells.specs.declared.layout.Layout.{Ghosts}
use Rattle.device.specs.declared.cell_device.CellDevice.{CellDevice}
use Rattle.device.specs.Cells.{Keeps, rows_in, fresh}

pub whole : {s t : State} {l k : List ℕ} {f g : ℕ → ℕ} → s ≡ t → l ≡ k → f ≡ g
    → ◌≡◌ {A = Meaning} (record { state = s; words = l; cells = f }) (record { state = t; words = k; cells = g })
whole p q r = λ i. record { state = p i; words = q i; cells = r i }

both : {a b c d : ℕ} → a ≡ b → c ≡ d → ◌≡◌ {A = ℕ × ℕ} (a, c) (b, d)
both p q = λ i. (p i, q i)

-- all the rows fit
pub rows_fit : (row rows size : ℕ) → 0 < row → row * rows ≤ size → rows ≤ size / row
rows_fit row rows size h fit = (le-div_iff_mul-le h).1 (rw (mul_comm rows row) fit)

pub lowered_same : (s : Sheet) (k : ℕ) → s.rows ≤ k → lowered s k ≡ s
lowered_same s k h = let e : min s.rows k ≡ s.rows = min-eq_left h in same_sheet _ _ (cc)

-- a clock that is a fault, or comes after one
pub held_step : (m : Meaning) (p : Pins) (f : Fault) → Err f ≡ answered m.state p
    → ◌≡◌ {A = Meaning} (record { state = stepped m.state p; words = m.words; cells = m.cells }) (step m p)
unfolding step
held_step m p f e = whole refl (sym (stays m.state p f _ _ e)) (sym (stays m.state p f _ _ e))

pub held_out : (m : Meaning) (p : Pins) (f : Fault) → Err f ≡ answered m.state p → (0, 0) ≡ out m p
unfolding out
held_out m p f e = sym (stays m.state p f (shown m) (0, 0) e)

-- a clock that is no fault
pub moved_step : (m : Meaning) (p : Pins) (r : Moved) → Ok r ≡ answered m.state p
    → ◌≡◌ {A = Meaning} (record { state = stepped m.state p; words = passed m.words (taken (work_at m.state p) m.cells); cells = done (work_at m.state p) m.cells }) (step m p)
unfolding step
moved_step m p r e = whole refl (sym (goes m.state p r _ _ e)) (sym (goes m.state p r _ _ e))

pub moved_out : (m : Meaning) (p : Pins) (r : Moved) → Ok r ≡ answered m.state p → shown m ≡ out m p
unfolding out
moved_out m p r e = sym (goes m.state p r (shown m) (0, 0) e)

pub sheet_on : (s t : State) (p : Pins) → t ≡ stepped s p → t.sheet ≡ s.sheet
sheet_on s t p h = ap (λ (u : State). u.sheet) h ∙ sheet_kept s p

-- the rows that fit go on fitting
pub fit_on : (row : ℕ) (s t : State) (p : Pins) (size : ℕ) → t ≡ stepped s p → row * s.sheet.rows ≤ size → row * t.sheet.rows ≤ size
fit_on row s t p size h fit = subst (λ (x : Sheet). row * x.rows ≤ size) (sym (sheet_on s t p h)) fit

-- the meaning of a device, by its parts
abbrev pub over : {X : Type 0} → (ℕ → List X → ℕ → ℕ) → List X → State → List ℕ → Meaning
over words memory s l = record { state = s; words = l; cells = words s.sheet.rows memory }

module _ {X : Type 0} (words : ℕ → List X → ℕ → ℕ) where
  rows_on : (s t : State) (p : Pins) → t ≡ stepped s p → t.sheet.rows ≡ s.sheet.rows
  rows_on s t p h = ap (λ (y : Sheet). y.rows) (sheet_on s t p h)

  -- a clock that is a fault, or comes after one
  pub held : (memory : List X) (s t : State) (l : List ℕ) (p : Pins) (f : Fault) → t ≡ stepped s p → Err f ≡ answered s p
      → (over words memory t l ≡ step (over words memory s l) p) × ((0, 0) ≡ out (over words memory s l) p)
  held memory s t l p f h e = (
    whole h refl (ap (λ (r : ℕ). words r memory) (rows_on s t p h)) ∙ held_step (over words memory s l) p f e,
    held_out (over words memory s l) p f e,
  )

  -- a clock that is no fault
  pub went : (memory memory' : List X) (s t : State) (l l' : List ℕ) (p : Pins) (r : Moved) (word bits : ℕ)
      → t ≡ stepped s p → Ok r ≡ answered s p
      → words s.sheet.rows memory' ≡ done r.work (words s.sheet.rows memory)
      → l' ≡ passed l (taken r.work (words s.sheet.rows memory))
      → word ≡ leaving 0 l → bits ≡ wide r.lanes
      → (over words memory' t l' ≡ step (over words memory s l) p) × ((r.lanes, bit_and word bits) ≡ out (over words memory s l) p)
  went memory memory' s t l l' p r word bits h e cells line front wided =
      let m : Meaning = over words memory s l in
      let says = told s p r e in
      let lanes : r.lanes ≡ lanes_now s = says.1 in
      let seen : bit_and word bits ≡ bit_and (leaving 0 l) (wide (lanes_now s)) = ap (λ (x : ℕ). bit_and x bits) front ∙ ap (λ (x : ℕ). bit_and (leaving 0 l) x) (wided ∙ ap wide lanes) in (
        whole h (line ∙ ap (λ (x : Work). passed l (taken x m.cells)) says.0)
            (ap (λ (k : ℕ). words k memory') (rows_on s t p h) ∙ cells ∙ ap (λ (x : Work). done x m.cells) says.0)
            ∙ moved_step m p r e,
        both lanes seen ∙ moved_out m p r e,
      )

  -- what memory holds at the end, y being what the device left
  pub left_words : (row : ℕ) (memory y z : List X) (t : State) (k : List ℕ) (x : Sheet) (ps : List Pins)
      → t.sheet.rows ≡ rows_in row x memory → over words y t k ≡ run (fresh row words x memory) ps → z ≡ y
      → words (rows_in row x memory) z ≡ (run (fresh row words x memory) ps).cells
  left_words row memory y z t k x ps rows after back =
      ap (words (rows_in row x memory)) back ∙ ap (λ (r : ℕ). words r y) (sym rows) ∙ ap (λ (m : Meaning). m.cells) after

-- the memory past the rows
pub left_rest : {X : Type 0} (row n k : ℕ) (memory a y z : List X) → k ≡ n → a ≡ memory → drop (row * k) y ≡ drop (row * k) a → z ≡ y
    → drop (row * n) z ≡ drop (row * n) memory
left_rest row n k memory a y z e f kept back =
    ap (drop (row * n)) back ∙ subst (λ (r : ℕ). drop (row * r) y ≡ drop (row * r) a) e kept ∙ ap (drop (row * n)) f

-- what the check takes for a clock past the last
abbrev pub lows : Pins
lows = record { cs = Low; ras = Low; cas = Low; we = Low; dsf = Low; dqm = 0; address = 0; dq = 0 }

-- one clock more of a list
pub run_more : (m n k : Meaning) (ps : List Pins) (i : ℕ) → i < length ps → n ≡ run m (take i ps) → k ≡ step n (get_or ps i lows) → k ≡ run m (take (i + 1) ps)
run_more m n k ps i h e f =
    f ∙ ap (λ (x : Meaning). step x (get_or ps i lows)) e ∙ sym (run_join m (take i ps) (get_or ps i lows ∷ [])) ∙ ap (run m) (sym (take_more ps i lows h))

-- what clocks keep, a clock more keeps
pub kept_on : {L X : Type 0} {G : Ghosts L X} (d e f : CellDevice L X G) → Keeps d e → Keeps e f → Keeps d f
kept_on {G = G} d e f k j = record {
  lender = j.lender ∙ k.lender;
  rest = subst (λ (s : Sheet). drop (G.row * s.rows) f.cells.now ≡ drop (G.row * s.rows) e.cells.now) k.sheet j.rest ∙ k.rest;
  length = j.length ∙ k.length;
  sheet = j.sheet ∙ k.sheet;
}
