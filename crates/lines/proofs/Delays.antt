use Rattle.std.proofs.Common.{◌≡◌, List, [], ◌∷◌, ◌++◌, length, take, refl, ap, ◌∙◌, append_assoc}
use Rattle.lines.specs.Line.{leaves, LineDelays}

-- a line that is not empty, in two parts
delayed : {X : Type 0} (d y : X) (ys xs : List X) → leaves d (y ∷ ys) xs ≡ take (length xs) ((y ∷ ys) ++ xs)
delayed d y ys [] = refl
delayed d y [] (x ∷ xs) = ap (λ zs. y ∷ zs) (delayed d x [] xs)
delayed d y (z ∷ ys) (x ∷ xs) =
    ap (λ zs. y ∷ zs) (delayed d z (ys ++ (x ∷ [])) xs ∙ ap (λ zs. take (length xs) (z ∷ zs)) (append_assoc ys (x ∷ []) xs))

pub line_delays : (X : Type 0) → LineDelays X
line_delays X d y ys xs = delayed d y ys xs
