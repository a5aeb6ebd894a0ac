-- Requests by their numbers: which bits of which words a request reaches, and what it gives them.
use Rattle.std.specs.Prelude.{ℕ, ◌-◌, ◌/◌, Bool, false, cond, ◌&&◌, List, [], ◌∷◌, length, Some, None, Option, ◌==◌, slice_index}
use Rattle.rules.specs.Words.{bit}
use Rattle.schedule.specs.Spread.{among}
use Rattle.pen.specs.declared.pen_numbers.Pen.{Pen}

pub data Ask : Type 0 where
  -- a buffer filled from an address on
  read : ℕ → List ℕ → Ask
  -- a buffer stored from an address on, under a pen
  write : Pen → ℕ → List ℕ → Ask
  -- a pen's colour in a number of words from an address on
  fill : Pen → ℕ → ℕ → Ask
  -- at least so many clocks
  wait : ℕ → Ask

-- a pen reaches a bit whose lane and mask bits are 1
abbrev pub pen_reaches : Pen → ℕ → Bool
pen_reaches p i = bit p.mask i == 1 && bit p.lanes (i / 8) == 1

-- the request reaches bit i of the word at a
abbrev pub reaches : Ask → ℕ → ℕ → Bool
reaches (read x ws) a i = false
reaches (write p x ws) a i = among x (length ws) a && pen_reaches p i
reaches (fill p x n) a i = among x n a && pen_reaches p i
reaches (wait n) a i = false

-- what it gives a bit that it reaches
abbrev pub gives : Ask → ℕ → ℕ → ℕ
gives (read x ws) a i = 0
gives (write p x ws) a i = bit (slice_index ws (a - x)) i
gives (fill p x n) a i = bit p.colour i
gives (wait n) a i = 0

abbrev pub later_or : Option ℕ → Bool → ℕ → Option ℕ
later_or (Some v) reached given = Some v
later_or None reached given = cond reached (Some given) None

-- what the last of the requests that reaches bit i of the word at a gives it
abbrev pub last : List Ask → ℕ → ℕ → Option ℕ
last [] a i = None
last (q ∷ qs) a i = later_or (last qs a i) (reaches q a i) (gives q a i)

-- a bit that was given, or else the old one
abbrev pub held : Option ℕ → ℕ → ℕ
held None old = old
held (Some v) old = v
