-- The bits that a pen reaches.
use Rattle.std.proofs.Common.{◌≡◌, ℕ, zero, suc, ◌+◌, ◌*◌, ◌/◌, ◌%◌, ◌^◌, ◌<◌, Bool, true, ◌&&◌, eqb, refl, ap, ◌∙◌, arith, eqb-true}
use lib.Bits.{bit_and, and_shr, and_step}
use Rattle.std.proofs.lemmas.Bool.Decides.{nat_tests}
use Rattle.rules.specs.Words.{bit, wide}
use Rattle.rules.proofs.Below.{every, every_one}
use Rattle.pen.specs.declared.pen_numbers.Pen.{Pen}
use Rattle.pen.specs.Reach.{reach}
use Rattle.book.specs.Asks.{pen_reaches}

and_low : (a b : ℕ) → eqb (bit_and a b % 2) 1 ≡ (eqb (a % 2) 1 && eqb (b % 2) 1)
and_low a b = let e = and_step a b in grind (arith, nat_tests)

bit_and_is : (a b i : ℕ) → eqb (bit (bit_and a b) i) 1 ≡ (eqb (bit a i) 1 && eqb (bit b i) 1)
bit_and_is a b i = rw (and_shr a b i) (and_low (a / 2 ^ i) (b / 2 ^ i))

-- every bit of every four lanes, tried
wide_test : ℕ → Bool
wide_test n = eqb (bit (wide (n / 32)) (n % 32)) (bit (n / 32) (n % 32 / 8))

wide_tried : every wide_test 512 ≡ true
unfolding wide_test
wide_tried = refl

bit_wide : (lanes i : ℕ) → lanes < 16 → i < 32 → bit (wide lanes) i ≡ bit lanes (i / 8)
unfolding wide_test
bit_wide l i h q =
    let e = every_one wide_test 512 (l * 32 + i) wide_tried (omega arith) in
    let e₁ : (l * 32 + i) / 32 ≡ l = omega arith in
    let e₂ : (l * 32 + i) % 32 ≡ i = omega arith in
    eqb-true _ _ (rw (e₁, e₂) at e)

bit_low : (n i : ℕ) → i < 4 → bit (n % 16) i ≡ bit n i
bit_low n zero h = omega arith
bit_low n (suc zero) h = omega arith
bit_low n (suc (suc zero)) h = omega arith
bit_low n (suc (suc (suc zero))) h = omega arith
bit_low n (suc (suc (suc (suc i)))) h = absurd (omega arith)

-- the mask with the lanes folded in
pub bit_reach : (p : Pen) (i : ℕ) → i < 32 → eqb (bit (reach p) i) 1 ≡ pen_reaches p i
bit_reach p i h =
    let e : bit (wide (p.lanes % 16)) i ≡ bit p.lanes (i / 8) = bit_wide (p.lanes % 16) i (omega arith) h ∙ bit_low p.lanes (i / 8) (omega arith) in
    bit_and_is p.mask (wide (p.lanes % 16)) i ∙ ap (λ x. eqb (bit p.mask i) 1 && eqb x 1) e
