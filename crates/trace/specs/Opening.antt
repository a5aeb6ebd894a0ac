-- The sheet line: decimals parted by tabs and ended by LF, as many as a sheet has fields.
use Rattle.std.specs.Prelude.{◌≡◌, ℕ, zero, suc, ◌+◌, ◌-◌, Bool, cond, not, ◌&&◌, ◌||◌, List, [], ◌∷◌, length, take, drop, Some, None, Ok, Err, Option, ◌==◌, nat_lt, slice_index}
use Rattle.std.specs.List.{prefix_len}
use Rattle.sheet.specs.Admit.{numbers, ranges, verdict}
use Rattle.trace.specs.declared.text.Opening.{Opening}
use Rattle.trace.specs.declared.refusal.Refusal.TheVariants.{TextTooLong, NoSheet}
use Rattle.trace.specs.Answer.{Reply, answer, on}
use Rattle.trace.specs.Digits.{if_some, decimal_of}

-- a tab or a LF
abbrev pub mark : ℕ → Bool
mark b = b == 9 || b == 10

-- how many bytes stand before the first mark
abbrev pub before_mark : List ℕ → ℕ
before_mark bs = prefix_len (λ b. not (mark b)) bs

-- a decimal with its end behind it: the value, and how many bytes both take
abbrev pub field_of : ℕ → List ℕ → Option (ℕ × ℕ)
field_of end bs =
    cond (nat_lt (before_mark bs) (length bs) && slice_index bs (before_mark bs) == end)
    (if_some (decimal_of (take (before_mark bs) bs)) (λ v. Some (v, before_mark bs + 1))) None

-- the byte behind a field when k more follow: a tab, or LF at the last
abbrev pub end_before : ℕ → ℕ
end_before k = cond (k == 0) 10 9

-- k decimals, each with its end behind it: the values, and how many bytes all take
abbrev pub fields_of : ℕ → List ℕ → Option (List ℕ × ℕ)
fields_of zero bs = Some ([], 0)
fields_of (suc k) bs =
    if_some (field_of (end_before k) bs)
    (λ f. if_some (fields_of k (drop f.1 bs)) (λ more. Some (f.0 ∷ more.0, f.1 + more.1)))

-- how many fields a sheet has
abbrev pub count : ℕ
count = length ranges

unfoldable pub sheet_line : List ℕ → Option (List ℕ × ℕ)
sheet_line bs = fields_of count bs

-- the most bytes that a trace may have
abbrev pub limit : ℕ
limit = 65536

-- the sheet's numbers, or why they make no sheet
abbrev pub admitted : List ℕ → Reply (List ℕ)
admitted xs = cond ((verdict xs).0 == 0) (Ok (verdict xs).1) (Err (verdict xs))

abbrev pub opened : Option (List ℕ × ℕ) → Reply (List ℕ × ℕ)
opened None = Err (answer NoSheet)
opened (Some line) = on (λ xs. (xs, line.1)) (admitted line.0)

-- the sheet's numbers and where the clock lines begin, or the first reason against the text
abbrev pub heading_of : List ℕ → Reply (List ℕ × ℕ)
heading_of bs = cond (nat_lt limit (length bs)) (Err (answer TextTooLong)) (opened (sheet_line bs))

-- where the end of a text begins
abbrev pub start_of : List ℕ → List ℕ → ℕ
start_of bs end = length bs - length end

abbrev pub IsEnd : List ℕ → List ℕ → Type 0
IsEnd bs end = end ≡ drop (start_of bs end) bs

abbrev pub headed : List ℕ → Opening → List ℕ × ℕ
headed bs h = (numbers h.sheet, start_of bs h.body.now)
