-- How many rows a memory holds, where a row takes `row` of its n cells.
use Rattle.std.proofs.Common.{◌≡◌, ℕ, ◌*◌, ◌/◌, ◌<◌, ◌≤◌, leb, sym, ◌∙◌, ⊎_elim, mul_comm, mul-le-mul_left, arith, le-leb}
use native.Mathlib.Nat.{mul-div-le}
use Rattle.std.proofs.lemmas.Nat.{le-div}
use Rattle.std.proofs.lemmas.Bool.Decides.{leb_tells}

under : (row rows n : ℕ) → rows ≤ n / row → row * rows ≤ n
under row rows n l = omega (arith, mul-div-le n row, mul-le-mul_left row l)

over : (row rows n : ℕ) → 0 < row → row * rows ≤ n → rows ≤ n / row
over row rows n h f = le-div rows n row h (omega (arith, mul_comm row rows))

pub rows_enough : (row rows n : ℕ) → 0 < row → leb rows (n / row) ≡ leb (row * rows) n
rows_enough row rows n h =
    ⊎_elim
    (λ t. t.0 ∙ sym (le-leb (row * rows) n (under row rows n t.1)))
    (λ f. ⊎_elim (λ t. absurd (omega (arith, f.1, over row rows n h t.1))) (λ o. f.0 ∙ sym o.0) (leb_tells (row * rows) n))
    (leb_tells rows (n / row))
