-- The bits of a word after a write under a mask.
use Rattle.std.proofs.Common.{◌≡◌, ℕ, zero, suc, ◌+◌, ◌-◌, ◌/◌, ◌%◌, min, cond, eqb, sym, ap, ◌∙◌, div-one, arith}
use lib.Bits.{and_step, and_le_l}
use Rattle.std.proofs.lemmas.Nat.{shr-shr}
use Rattle.std.proofs.lemmas.Bool.Decides.{nat_tests}
use Rattle.rules.specs.Words.{bit, put}

pub bit_zero : (n : ℕ) → bit n 0 ≡ n % 2
bit_zero n = ap (λ (x : ℕ). x % 2) (div-one n)

pub bit_half : (n i : ℕ) → bit n (suc i) ≡ bit (n / 2) i
bit_half n i =
    let e : suc i ≡ 1 + i = omega arith in
    rw e (sym (ap (λ (x : ℕ). x % 2) (shr-shr n 1 i)))

pub put_half : (mask new old : ℕ) → put mask new old / 2 ≡ put (mask / 2) (new / 2) (old / 2)
put_half m w o = omega (arith, and_step o m, and_step w m, and_le_l (o / 2) (m / 2))

pub put_low : (mask new old : ℕ) → put mask new old % 2 ≡ cond (eqb (mask % 2) 1) (new % 2) (old % 2)
put_low m w o =
    let e : put m w o % 2 ≡ o % 2 - min (o % 2) (m % 2) + min (w % 2) (m % 2) = omega (arith, and_step o m, and_step w m, and_le_l (o / 2) (m / 2)) in
    e ∙ grind (arith, nat_tests)

-- a bit of the mask takes the new one's, another stays
pub bit_put : (mask new old i : ℕ) → bit (put mask new old) i ≡ cond (eqb (bit mask i) 1) (bit new i) (bit old i)
bit_put m w o zero = rw (bit_zero (put m w o), bit_zero m, bit_zero w, bit_zero o) (put_low m w o)
bit_put m w o (suc i) =
    rw (bit_half m i, bit_half w i, bit_half o i) (bit_half (put m w o) i ∙ ap (λ (x : ℕ). bit x i) (put_half m w o) ∙ bit_put (m / 2) (w / 2) (o / 2) i)
