-- A device over cleared planes.
use Rattle.std.proofs.Common.{◌≡◌, ℕ, zero, suc, ◌+◌, ◌*◌, ◌/◌, ◌%◌, ◌<◌, ◌≤◌, List, ◌++◌, length, get_or, drop, replicate, refl, ap, ◌∙◌, ⊎_elim, arith, lit<, length-append, length-drop}
use mathlib.Core.Path.{fun_ext}
use native.Mathlib.Nat.{min-eq_left}
use Rattle.std.proofs.lemmas.List.{length-replicate, get_or-replicate, get_or_append_left}
use Rattle.std.proofs.lemmas.Slice.{drop-append-drop}
use Rattle.std.proofs.lemmas.Bool.Decides.{leb_tells}
use Rattle.sheet.specs.declared.sheet.Sheet.{Sheet}
use Rattle.rules.specs.Words.{bit}
use Rattle.rules.specs.State.{switched_on}
use Rattle.cells.specs.Planes.{number, first, plane_bit, planed}
use Rattle.cells.proofs.Bits.{bit_none}
use Rattle.cells.proofs.Planed.{first_within}
use Rattle.device.specs.Cells.{fresh, rows_in}
use Rattle.device.proofs.Fits.{whole, rows_fit, lowered_same}
use Rattle.verdict.specs.Judged.{start}

number_zero : (f : ℕ → ℕ) (n : ℕ) → ((i : ℕ) → i < n → f i ≡ 0) → number f n ≡ 0
unfolding number
number_zero f zero h = refl
number_zero f (suc n) h = omega (arith, h 0 (omega arith), number_zero (λ i. f (suc i)) n (λ i l. h (suc i) (omega arith)))

module _ (rows : ℕ) (before : List ℕ) where
  cleared : List ℕ
  cleared = replicate (2048 * rows) 0 ++ drop (2048 * rows) before

  byte_zero : (j : ℕ) → j < 2048 * rows → get_or cleared j 0 ≡ 0
  unfolding cleared
  byte_zero j h =
      get_or_append_left (replicate (2048 * rows) 0) (drop (2048 * rows) before) 0 j (rw (length-replicate {A = ℕ} (2048 * rows) 0) h) ∙ get_or-replicate (2048 * rows) j 0 0 h

  word_zero : (a : ℕ) → a < 512 * rows → number (plane_bit rows cleared a) 32 ≡ 0
  word_zero a h =
      number_zero (plane_bit rows cleared a) 32
      (λ i l. ap (λ (x : ℕ). bit x (a % 8)) (byte_zero (first rows a + 64 * i) (omega (arith, first_within rows a h))) ∙ bit_none (a % 8))

  cells_zero : planed rows cleared ≡ (λ a. 0)
  cells_zero =
      fun_ext (λ a.
      ⊎_elim (λ t. rw t.0 (word_zero a t.1)) (λ f. rw f.0 refl) (leb_tells (suc a) (512 * rows)))

-- just switched on
pub fresh_blank : (x : Sheet) (before after : List ℕ) → 2048 * x.rows ≤ length before
    → after ≡ replicate (2048 * x.rows) 0 ++ drop (2048 * x.rows) before
    → (fresh 2048 planed x after ≡ start x) × (drop (2048 * x.rows) after ≡ drop (2048 * x.rows) before)
unfolding cleared
fresh_blank x before after fit e =
    let n : ℕ = 2048 * x.rows in
    let long : length after ≡ length before = ap length e ∙ simp (length-append, length-replicate, length-drop) (omega arith) in
    let k : x.rows ≤ length after / 2048 = rows_fit 2048 x.rows (length after) (lit< tt) (omega arith) in
    let rows : rows_in 2048 x after ≡ x.rows = min-eq_left k in (
      whole (ap switched_on (lowered_same x (length after / 2048) k)) refl (ap (λ (r : ℕ). planed r after) rows ∙ ap (planed x.rows) e ∙ cells_zero x.rows before),
      ap (drop n) e ∙ drop-append-drop n before (replicate n 0) n (omega arith) (length-replicate n 0),
    )
