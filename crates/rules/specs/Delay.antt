-- A delay line of elements of any kind, oldest first: what enters it leaves after as many clocks as it is long.
use Rattle.std.specs.Prelude.{Bool, false, ◌||◌, List, [], ◌∷◌, ◌++◌}

-- what leaves at this clock
abbrev pub leaving {ℓ} : {X : Type ℓ} → X → List X → X
leaving d [] = d
leaving d (x ∷ xs) = x

-- the line after x entered
abbrev pub passed {ℓ} : {X : Type ℓ} → List X → X → List X
passed [] x = []
passed (y ∷ ys) x = ys ++ (x ∷ [])

abbrev pub any_in : List Bool → Bool
any_in [] = false
any_in (x ∷ xs) = x || any_in xs
