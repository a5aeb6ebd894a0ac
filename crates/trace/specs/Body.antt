-- The clock lines: the text behind the sheet line, cut into pieces of 21 bytes.
use Rattle.std.specs.Prelude.{ℕ, zero, suc, ◌+◌, ◌*◌, ◌/◌, List, [], ◌∷◌, length, take, drop, Some, None, Ok, Err, Option}
use Rattle.rules.specs.declared.pins.Pins.{Pins}
use Rattle.trace.specs.declared.refusal.Refusal.TheVariants.{IllFormedLine}
use Rattle.trace.specs.Answer.{Reply, answer, on}
use Rattle.trace.specs.Clock.{pins_of}

abbrev pub cut : ℕ → List ℕ → List (List ℕ)
cut zero bs = []
cut (suc k) bs = take 21 bs ∷ cut k (drop 21 bs)

-- all pieces; the last one may be shorter
abbrev pub pieces : List ℕ → List (List ℕ)
pieces bs = cut ((length bs + 20) / 21) bs

-- piece k, from 0
abbrev pub piece : List ℕ → ℕ → List ℕ
piece bs k = take 21 (drop (21 * k) bs)

-- the pins of line n and of those behind it, unless it is ill-formed or one of them is
abbrev pub joined : ℕ → Option Pins → Reply (List Pins) → Reply (List Pins)
joined n None more = Err (answer (IllFormedLine n))
joined n (Some p) more = on (λ ps. p ∷ ps) more

-- the pins that the lines give, the first of which is line n; or the number of the first that is ill-formed
abbrev pub read : ℕ → List (List ℕ) → Reply (List Pins)
read n [] = Ok []
read n (line ∷ more) = joined n (pins_of line) (read (n + 1) more)

-- the pins at each clock; the sheet line is line 1
abbrev pub clocks_of : List ℕ → Reply (List Pins)
clocks_of bs = read 2 (pieces bs)

-- those of a well-formed body
abbrev pub listed : Reply (List Pins) → List Pins
listed (Ok ps) = ps
listed (Err e) = []

abbrev pub clocks : List ℕ → List Pins
clocks bs = listed (clocks_of bs)
