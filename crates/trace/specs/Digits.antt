-- Digits, and the numbers that they write.
use Rattle.std.specs.Prelude.{ℕ, zero, suc, ◌+◌, ◌-◌, ◌*◌, ◌/◌, ◌%◌, true, cond, not, ◌&&◌, ◌||◌, List, [], ◌∷◌, ◌++◌, length, Some, None, Option, ◌==◌, nat_le, nat_lt, slice_index}
use Rattle.std.specs.Fmt.{digit_glyph}

-- what f answers to a value, if there is one
abbrev pub if_some : {X Y : Type 0} → Option X → (X → Option Y) → Option Y
if_some None f = None
if_some (Some x) f = f x

-- '0' to '9' and 'A' to 'F'
abbrev pub digit_of : ℕ → Option ℕ
digit_of b = cond (nat_le 48 b && nat_le b 57) (Some (b - 48)) (cond (nat_le 65 b && nat_le b 70) (Some (b - 55)) None)

-- the number that the digits write in a base, after those of n
abbrev pub number_after : ℕ → ℕ → List ℕ → Option ℕ
number_after base n [] = Some n
number_after base n (b ∷ bs) = if_some (digit_of b) (λ d. cond (nat_lt d base) (number_after base (base * n + d) bs) None)

abbrev pub number_of : ℕ → List ℕ → Option ℕ
number_of base bs = number_after base 0 bs

-- 1 to 10 decimal digits; a leading zero only in 0 itself
abbrev pub decimal_of : List ℕ → Option ℕ
decimal_of bs =
    cond (nat_le 1 (length bs) && nat_le (length bs) 10 && (nat_le (length bs) 1 || not (slice_index bs 0 == 48))) (number_of 10 bs) None

-- the last n hexadecimal digits of a number
abbrev pub hex : ℕ → ℕ → List ℕ
hex zero v = []
hex (suc n) v = hex n (v / 16) ++ (digit_glyph true (v % 16) ∷ [])
