-- The line of reads, with the word of each beat that is due: Some word, or None where no beat is due.
use Rattle.std.specs.Prelude.{ℕ, Bool, List, map, replicate, Some, None, Option, bit_and}
use Rattle.rules.specs.Words.{wide}
use Rattle.std.specs.Option.{is_some}

abbrev pub value : Option ℕ → ℕ
value None = 0
value (Some w) = w

-- the line as the device keeps it: whether a beat is due, and the words, zero where none is
abbrev pub beats : List (Option ℕ) → List Bool
beats line = map is_some line

abbrev pub words : List (Option ℕ) → List ℕ
words line = map value line

-- no beat is due
abbrev pub silent : ℕ → List (Option ℕ)
silent k = replicate k None

-- what a clock drives, where every DQM is low
abbrev pub driven : Option ℕ → ℕ × ℕ
driven None = (0, 0)
driven (Some w) = (15, bit_and w (wide 15))
