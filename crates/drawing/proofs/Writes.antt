-- Words written in an open row.
use Rattle.std.proofs.Common.{◌≡◌, ℕ, zero, suc, ◌+◌, ◌<◌, ◌≤◌, false, List, [], ◌∷◌, length, get_or, take, sym, refl, ap, ◌∙◌, add-zero, add-one, arith, length-take}
use Rattle.std.proofs.lemmas.List.{take_more}
use Rattle.sheet.specs.declared.sheet.Sheet.{Sheet}
use Rattle.rules.specs.declared.pins.BankName.{BankName}
use Rattle.rules.specs.declared.pins.BankName.TheVariants.{A, B}
use Rattle.rules.specs.declared.pins.Access.TheVariants.{Write}
use Rattle.rules.specs.declared.pins.Command.TheVariants.{Column}
use Rattle.rules.specs.Cells.{written}
use Rattle.schedule.specs.declared.ledger.Ledger.{Ledger}
use Rattle.schedule.specs.Ledger.{next}
use Rattle.schedule.specs.Line.{silent}
use Rattle.schedule.specs.Fit.{Reachable, Fit}
use Rattle.schedule.specs.After.{after, address, stored}
use Rattle.schedule.specs.Stretch.{at_clock}
use Rattle.schedule.specs.Writing.{all_written, wrote_at}
use Rattle.schedule.proofs.Lines.{leaving_silent}
use Rattle.schedule.proofs.Filling.{spreads}
use Rattle.drawing.specs.Drawn.{with_writes}

-- the row stays within reach
pub reachable_at : (s : Sheet) (d : Ledger) (b : BankName) (t : ℕ) → d.clock ≤ t → Reachable s d b false → Reachable s (at_clock t d) b false
reachable_at s d A t h r = record { low = refl; row_open = r.row_open; free = omega (arith, r.free); rcd = omega (arith, r.rcd); bwc = omega (arith, r.bwc) }
reachable_at s d B t h r = record { low = refl; row_open = r.row_open; free = omega (arith, r.free); rcd = omega (arith, r.rcd); bwc = omega (arith, r.bwc) }

pub writes_clock : (b : BankName) (k : ℕ) (d : Ledger) → (with_writes b k d).clock ≡ d.clock + k
writes_clock b zero d = sym (add-zero d.clock)
writes_clock b (suc k) d = refl

pub writes_mask : (b : BankName) (k : ℕ) (d : Ledger) → (with_writes b k d).mask ≡ d.mask
writes_mask b zero d = refl
writes_mask b (suc k) d = refl

pub writes_fit : (s : Sheet) (d : Ledger) (b : BankName) (k c : ℕ) → Reachable s d b false → d.bus ≤ next d
    → Fit s (silent s.cl) (with_writes b k d) (Column Write b false c)
writes_fit s d b zero c r h = (r, record { bus = h; nothing_leaves = leaving_silent s.cl })
writes_fit s d A (suc k) c r h = (
  record { low = refl; row_open = r.row_open; free = omega (arith, r.free); rcd = omega (arith, r.rcd); bwc = omega (arith, r.bwc) },
  record { bus = omega arith; nothing_leaves = leaving_silent s.cl },
)
writes_fit s d B (suc k) c r h = (
  record { low = refl; row_open = r.row_open; free = omega (arith, r.free); rcd = omega (arith, r.rcd); bwc = omega (arith, r.bwc) },
  record { bus = omega arith; nothing_leaves = leaving_silent s.cl },
)

-- one more word
pub writes_more : (s : Sheet) (d : Ledger) (b : BankName) (k c w : ℕ) → after s w (Column Write b false c) (with_writes b k d) ≡ with_writes b (k + 1) d
writes_more s d A zero c w = refl
writes_more s d B zero c w = refl
writes_more s d A (suc k) c w = let e : d.clock + suc k + 1 ≡ d.clock + suc (suc k) = omega arith in ap (λ t. wrote_at t A d) e ∙ ap (λ n. with_writes A n d) (sym (add-one (suc k)))
writes_more s d B (suc k) c w = let e : d.clock + suc k + 1 ≡ d.clock + suc (suc k) = omega arith in ap (λ t. wrote_at t B d) e ∙ ap (λ n. with_writes B n d) (sym (add-one (suc k)))

writes_place : (s : Sheet) (d : Ledger) (b : BankName) (k c : ℕ) → address s (with_writes b k d) b (c + k) ≡ address s d b c + k
writes_place s d A zero c = omega arith
writes_place s d B zero c = omega arith
writes_place s d A (suc k) c = omega arith
writes_place s d B (suc k) c = omega arith

-- the cells after one more word
pub stored_more : (s : Sheet) (d : Ledger) (b : BankName) (k c : ℕ) (ws : List ℕ) (f : ℕ → ℕ) → k < length ws
    → stored s (with_writes b k d) (get_or ws k 0) (Column Write b false (c + k)) (all_written (address s d b c) d.mask (take k ws) f)
    ≡ all_written (address s d b c) d.mask (take (k + 1) ws) f
stored_more s d b k c ws f h =
    let a : ℕ = address s d b c in
    let w : ℕ = get_or ws k 0 in
    let long : length (take k ws) ≡ k = omega (arith, length-take k ws) in
    (λ i. written (writes_place s d b k c i) (writes_mask b k d i) w (all_written a d.mask (take k ws) f))
    ∙ (ap (λ n. written (a + n) d.mask w (all_written a d.mask (take k ws) f)) (sym long)
    ∙ (sym (spreads.in_two (take k ws) (w ∷ []) f a d.mask) ∙ ap (λ x. all_written a d.mask x f) (sym (take_more ws k 0 h))))
