-- Hexadecimal digits with zeros before them.
use Rattle.std.proofs.Common.{◌≡◌, ℕ, zero, suc, ◌+◌, ◌-◌, ◌*◌, ◌/◌, ◌%◌, ◌^◌, ◌<◌, true, false, List, [], ◌∷◌, ◌++◌, length, replicate, sym, refl, ap, ◌∙◌, ⊎_elim, pow-suc, arith}
use Rattle.std.specs.Fmt.{digits, digits_onto, digit_glyph, char_count, padded_integral, format_spec}
use Rattle.std.proofs.lemmas.List.{append_assoc, append-nil}
use Rattle.std.proofs.lemmas.Bool.{cases_eq, ne_eqb, eq-eqb}
use Rattle.std.proofs.lemmas.Fmt.{hex_one_digit}
use Rattle.trace.specs.Digits.{hex}

zeros_more : (w : ℕ) (t : List ℕ) → replicate w 48 ++ (48 ∷ t) ≡ replicate (suc w) 48 ++ t
zeros_more zero t = refl
zeros_more (suc w) t = ap (λ (x : List ℕ). 48 ∷ x) (zeros_more w t)

hex_zero : (w : ℕ) → hex w 0 ≡ replicate w 48
hex_zero zero = refl
hex_zero (suc w) = ap (λ (t : List ℕ). t ++ (48 ∷ [])) (hex_zero w) ∙ zeros_more w [] ∙ append-nil (replicate (suc w) 48)

hex_last : (w n : ℕ) (acc : List ℕ) → hex (suc w) n ++ acc ≡ hex w (n / 16) ++ (digit_glyph true (n % 16) ∷ acc)
hex_last w n acc = append_assoc (hex w (n / 16)) (digit_glyph true (n % 16) ∷ []) acc

short : (w n : ℕ) (acc : List ℕ) → n / 16 ≡ 0 → replicate (suc w + length acc - suc (length acc)) 48 ++ (digit_glyph true (n % 16) ∷ acc) ≡ hex (suc w) n ++ acc
short w n acc z =
    let e : suc w + length acc - suc (length acc) ≡ w = omega arith in
    rw e (sym (hex_last w n acc ∙ ap (λ (m : ℕ). hex w m ++ (digit_glyph true (n % 16) ∷ acc)) z ∙ ap (λ (t : List ℕ). t ++ (digit_glyph true (n % 16) ∷ acc)) (hex_zero w)))

onto : (w k n : ℕ) (acc : List ℕ) → w < k → n < 16 ^ (w + 1) → replicate (suc w + length acc - length (digits_onto k 16 true n acc)) 48 ++ digits_onto k 16 true n acc ≡ hex (suc w) n ++ acc
onto w zero n acc l h = absurd (omega arith)
onto zero (suc k) n acc l h =
    let z : n / 16 ≡ 0 = omega arith in
    rw (eq-eqb (n / 16) 0 z) (short zero n acc z)
onto (suc w) (suc k) n acc l h = ⊎_elim
    (λ (z : n / 16 ≡ 0). rw (eq-eqb (n / 16) 0 z) (short (suc w) n acc z))
    (λ (more : n / 16 ≡ 0 → ⊥).
    let g : ℕ = digit_glyph true (n % 16) in
    let s : suc w + 1 ≡ suc (w + 1) = omega arith in
    let p : 16 ^ (suc w + 1) ≡ 16 ^ (w + 1) * 16 = rw s (pow-suc 16 (w + 1)) in
    let less : n / 16 < 16 ^ (w + 1) = omega (arith, p) in
    let e : suc w + suc (length acc) ≡ suc (suc w) + length acc = omega arith in
    rw (ne_eqb (n / 16) 0 more) (rw e at (onto w k (n / 16) (g ∷ acc) (omega arith) less) ∙ sym (hex_last (suc w) n acc)))
    (cases_eq (n / 16) 0)

as_onto : (k n : ℕ) → k ≡ 64 → digits 16 true n ≡ digits_onto k 16 true n []
unfolding digits
as_onto k n e = ap (λ (j : ℕ). digits_onto j 16 true n []) (sym e)

with_zeros : (w : ℕ) (ds : List ℕ) → padded_integral (format_spec 32 0 4 w (2 ^ 64 - 1)) false [] ds ≡ replicate (w - length ds) 48 ++ ds
unfolding padded_integral char_count
with_zeros w ds = let z : w - length ds - 0 - 0 ≡ w - length ds = omega arith in rw (append-nil ds, z) refl

from : (w k n : ℕ) (ds : List ℕ) → ds ≡ digits_onto k 16 true n [] → w < k → n < 16 ^ (w + 1) → replicate (suc w - length ds) 48 ++ ds ≡ hex (suc w) n
from w k n ds e l h =
    let z : suc w + 0 ≡ suc w = omega arith in
    rw (e, ← append-nil (hex (suc w) n)) (rw z at (onto w k n [] l h))

-- what a hole writes that fills its digits up with zeros
pub padded : (w n : ℕ) → w < 64 → n < 16 ^ (w + 1) → padded_integral (format_spec 32 0 4 (suc w) (2 ^ 64 - 1)) false [] (digits 16 true n) ≡ hex (suc w) n
padded w n l h = with_zeros (suc w) (digits 16 true n) ∙ from w 64 n (digits 16 true n) (as_onto 64 n refl) l h

-- a number below the digits' reach
pub three_digits : (a : ℕ) → padded_integral (format_spec 32 0 4 3 (2 ^ 64 - 1)) false [] (digits 16 true (a % 4096)) ≡ hex 3 a
three_digits a =
    let p : a % 4096 / 16 / 16 % 16 ≡ a / 16 / 16 % 16 = omega arith in
    let q : a % 4096 / 16 % 16 ≡ a / 16 % 16 = omega arith in
    let r : a % 4096 % 16 ≡ a % 16 = omega arith in
    padded 2 (a % 4096) (omega arith) (omega arith) ∙ (λ i. digit_glyph true (p i) ∷ (digit_glyph true (q i) ∷ (digit_glyph true (r i) ∷ [])))

pub one_digit : (a : ℕ) → digits 16 true (a % 16) ≡ hex 1 a
one_digit a = hex_one_digit true (a % 16) (omega arith)

pub eight_digits : (a : ℕ) → a < 2 ^ 32 → padded_integral (format_spec 32 0 4 8 (2 ^ 64 - 1)) false [] (digits 16 true a) ≡ hex 8 a
eight_digits a h = padded 7 a (omega arith) (omega arith)
