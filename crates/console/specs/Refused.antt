-- The line of a refusal.
use Rattle.std.specs.Prelude.{ℕ, List, [], ◌∷◌, ◌++◌, codes, decimal}

-- each number with a tab before it, and the LF
abbrev pub values_text : List ℕ → List ℕ
values_text [] = 10 ∷ []
values_text (x ∷ xs) = 9 ∷ (decimal x ++ values_text xs)

-- the number, and the values beside it
abbrev pub refusal_text : ℕ × List ℕ → List ℕ
refusal_text a = codes "refused" ++ values_text (a.0 ∷ a.1)
