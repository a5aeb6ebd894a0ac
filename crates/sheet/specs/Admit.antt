-- Which thirteen numbers make a sheet.
use Rattle.std.specs.Prelude.{ℕ, zero, suc, ◌+◌, ◌*◌, Bool, cond, ◌||◌, List, [], ◌∷◌, Ok, Err, Result, nat_lt, slice_index}
use Rattle.sheet.specs.declared.sheet.Sheet.{Sheet}
use Rattle.sheet.specs.Field.{place_of}
use Rattle.sheet.specs.declared.admit.SheetError.{SheetError}
use Rattle.sheet.specs.declared.admit.SheetError.TheVariants.{OutOfRange, RoundTooLong}

-- the numbers of a sheet, in their order
abbrev pub numbers : Sheet → List ℕ
numbers s =
    s.cl ∷ (s.rows ∷ (s.rcd ∷ (s.rp ∷ (s.ras ∷ (s.rasmax ∷ (s.rc ∷ (s.rrd ∷ (s.wr ∷ (s.bwc ∷ (s.n ∷ (s.ret ∷ (s.pup ∷ []))))))))))))

-- An answer is a number with the values beside it: 0 with the sheet's numbers, 1 with the place of the first field
-- out of range, 2 alone where ret is too small.
abbrev pub refusal : SheetError → ℕ × List ℕ
refusal (OutOfRange f) = (1, place_of f ∷ [])
refusal RoundTooLong = (2, [])

abbrev pub answer : Result Sheet SheetError → ℕ × List ℕ
answer (Ok s) = (0, numbers s)
answer (Err e) = refusal e

-- the least and the largest number that a field may be, in the order of the fields
abbrev pub ranges : List (ℕ × ℕ)
ranges =
    (1, 3)  -- cl
    ∷ ((0, 512)  -- rows
    ∷ ((1, 15)  -- rcd
    ∷ ((1, 15)  -- rp
    ∷ ((1, 31)  -- ras
    ∷ ((2048, 65535)  -- rasmax
    ∷ ((1, 63)  -- rc
    ∷ ((1, 15)  -- rrd
    ∷ ((1, 7)  -- wr
    ∷ ((1, 7)  -- bwc
    ∷ ((2, 1024)  -- n
    ∷ ((0, 2147483648)  -- ret
    ∷ ((0, 65535)  -- pup
    ∷ []))))))))))))

abbrev pub out_of : ℕ → ℕ × ℕ → Bool
out_of x r = nat_lt x r.0 || nat_lt r.1 x

-- k numbers from place i on
abbrev pub some_of : List ℕ → ℕ → ℕ → List ℕ
some_of xs i zero = []
some_of xs i (suc k) = slice_index xs i ∷ some_of xs (suc i) k

-- the place of the first number out of its range, or else the last word
abbrev pub checked : List ℕ → ℕ → List (ℕ × ℕ) → ℕ × List ℕ → ℕ × List ℕ
checked xs i [] last = last
checked xs i (r ∷ rs) last =
    cond (out_of (slice_index xs i) r) (1, suc i ∷ []) (checked xs (suc i) rs last)

abbrev pub verdict : List ℕ → ℕ × List ℕ
verdict xs = checked xs 0 ranges
    (cond (nat_lt (slice_index xs 11) (1024 * slice_index xs 10 + 1024)) (refusal RoundTooLong) (0, some_of xs 0 13))
