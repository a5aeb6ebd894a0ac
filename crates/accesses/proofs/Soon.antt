-- How soon words of one row are read.
use Rattle.std.proofs.Common.{◌≡◌, ℕ, ◌+◌, ◌-◌, ◌≤◌, cond, Some, None, Option, refl, ap, ◌∙◌, arith, eq-eqb, ne_eqb, le-leb}
use Rattle.sheet.specs.declared.sheet.Sheet.{Sheet}
use Rattle.rules.specs.declared.pins.BankName.{BankName}
use Rattle.rules.specs.declared.pins.BankName.TheVariants.{A, B}
use Rattle.schedule.specs.declared.ledger.Ledger.{Ledger}
use Rattle.schedule.specs.Ledger.{track, next}
use Rattle.schedule.specs.Places.{bank_of, row_of}
use Rattle.schedule.specs.After.{closed_track}
use Rattle.sequences.specs.Times.{waited, close_time, open_time, column_time, with_closed, with_opened, opened_from}
use Rattle.accesses.specs.Rows.{room, in_rows, with_row_read, with_fetched}
use Rattle.accesses.specs.Speed.{InRow, Soon}

-- in one row
pub one_row : (g : ℕ → ℕ → Ledger → Ledger) (x k : ℕ) (d : Ledger) → InRow x k → in_rows g x k d ≡ g x k d
one_row g x k d h = ap (λ z. cond z (g x k d) (g (x + room x) (k - room x) (g x (room x) d))) (le-leb k (room x) (omega arith))

-- the clock after words of one row
one_read : (s : Sheet) (x k : ℕ) (d : Ledger) → InRow x k → (with_fetched s x k d).clock ≡ (with_row_read s x k d).clock
one_read s x k d h = ap (λ e. e.clock) (one_row (with_row_read s) x k d h)

pub open_same : (s : Sheet) (b : BankName) (r : ℕ) (d : Ledger) (y : Option ℕ) → y ≡ Some r → opened_from s b r y d ≡ d
open_same s b r d y e = ap (λ z. opened_from s b r z d) e ∙ ap (λ z. cond z d (with_opened s b r (with_closed s b d))) (eq-eqb r r refl)

open_idle : (s : Sheet) (b : BankName) (r : ℕ) (d : Ledger) (y : Option ℕ) → y ≡ None → opened_from s b r y d ≡ with_opened s b r d
open_idle s b r d y e = ap (λ z. opened_from s b r z d) e

open_other : (s : Sheet) (b : BankName) (r o : ℕ) (d : Ledger) (y : Option ℕ) → y ≡ Some o → (o ≡ r → ⊥) → opened_from s b r y d ≡ with_opened s b r (with_closed s b d)
open_other s b r o d y e h = ap (λ z. opened_from s b r z d) e ∙ ap (λ z. cond z d (with_opened s b r (with_closed s b d))) (ne_eqb o r h)

-- the clock at which the reading begins
abbrev begin : Sheet → BankName → Ledger → ℕ
begin s b o = (waited (column_time s b o) o).clock

soon_idle : (s : Sheet) (b : BankName) (r : ℕ) (d : Ledger) → open_time s b d ≤ next d → d.block + s.bwc ≤ next d
    → begin s b (with_opened s b r d) ≡ d.clock + s.rcd
soon_idle s A r d h q = omega (arith, s.rcd_range)
soon_idle s B r d h q = omega (arith, s.rcd_range)

closed_keeps : (s : Sheet) (b : BankName) (d : Ledger) → close_time s b d ≤ next d → (with_closed s b d).clock ≡ next d
closed_keeps s A d h = omega arith
closed_keeps s B d h = omega arith

-- with the row closed at c, and every other distance met by rp after it
soon_closed : (s : Sheet) (b : BankName) (r : ℕ) (e : Ledger) (t : ℕ) → e.clock ≡ t → e.clock + s.rp ≤ open_time s b e → open_time s b e ≤ t + s.rp → e.block + s.bwc ≤ t
    → begin s b (with_opened s b r e) ≡ t + s.rp - 1 + s.rcd
soon_closed s A r e t c l h q = omega (arith, s.rcd_range, s.rp_range)
soon_closed s B r e t c l h q = omega (arith, s.rcd_range, s.rp_range)

closed_at : (s : Sheet) (b : BankName) (d : Ledger) (o : ℕ) → (track d b).row ≡ Some o → (with_closed s b d).clock + s.rp ≤ open_time s b (with_closed s b d)
closed_at s A d o e =
    let q : (with_closed s A d).a.closed ≡ (with_closed s A d).clock = ap (λ y. (closed_track (with_closed s A d).clock y d.a).closed) e in
    omega (arith, q)
closed_at s B d o e =
    let q : (with_closed s B d).b.closed ≡ (with_closed s B d).clock = ap (λ y. (closed_track (with_closed s B d).clock y d.b).closed) e in
    omega (arith, q)

pub soon : Soon
soon = record {
  in_open = λ s x k d h e t.
      let b : BankName = bank_of s.rows x in
      let f = ap (λ o. (waited (column_time s b o) o).clock + (k + s.cl)) (open_same s b (row_of s.rows x) d (track d b).row e) in
      one_read s x k d h ∙ (f ∙ omega arith);
  from_idle = λ s x k d h e t q.
      let b : BankName = bank_of s.rows x in
      let f = ap (λ o. (waited (column_time s b o) o).clock + (k + s.cl)) (open_idle s b (row_of s.rows x) d (track d b).row e) in
      one_read s x k d h ∙ (f ∙ omega (arith, soon_idle s b (row_of s.rows x) d t q));
  from_other = λ s x k r d h e n t u q.
      let b : BankName = bank_of s.rows x in
      let y : ℕ = row_of s.rows x in
      let f = ap (λ o. (waited (column_time s b o) o).clock + (k + s.cl)) (open_other s b y r d (track d b).row e n) in
      let l = soon_closed s b y (with_closed s b d) (next d) (closed_keeps s b d t) (closed_at s b d r e) u q in
      one_read s x k d h ∙ (f ∙ omega (arith, l, s.rp_range));
}
