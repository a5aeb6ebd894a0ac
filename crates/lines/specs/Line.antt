use Rattle.std.specs.Prelude.{◌≡◌, ℕ, List, [], ◌∷◌, ◌++◌, length, take}
use Rattle.rules.specs.Delay.{leaving, passed}
use Rattle.lines.specs.declared.delay.Depth.{Depth}
use Rattle.lines.specs.declared.delay.Depth.TheVariants.{One, Two, Three}
use Rattle.lines.specs.declared.delay.Delay.{Delay}

abbrev pub clocks : Depth → ℕ
clocks One = 1
clocks Two = 2
clocks Three = 3

abbrev pub lined : {X : Type 0} → Depth → X → X → X → List X
lined One x y z = x ∷ []
lined Two x y z = x ∷ (y ∷ [])
lined Three x y z = x ∷ (y ∷ (z ∷ []))

-- the elements of a line, oldest first
abbrev pub line : {X : Type 0} → Delay X → List X
line d = lined d.depth d.first d.second d.third

-- what leaves a line, clock by clock, while the given elements enter it
abbrev pub leaves : {X : Type 0} → X → List X → List X → List X
leaves d ys [] = []
leaves d ys (x ∷ xs) = leaving d ys ∷ leaves d (passed ys x) xs

-- the elements of the line come first, and then those that entered, each as many clocks later as the line is long
abbrev pub LineDelays : Type 0 → Type 0
LineDelays X = (d y : X) (ys xs : List X) → leaves d (y ∷ ys) xs ≡ take (length xs) ((y ∷ ys) ++ xs)
