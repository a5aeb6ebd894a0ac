-- The line of a refusal, from the refusal as it is printed.
use Rattle.std.proofs.Common.{◌≡◌, ℕ, List, [], ◌∷◌, ◌++◌, decimal, refl, ap, ◌∙◌, append_assoc}
use Rattle.trace.specs.Answer.{beside, printed}
use Rattle.console.specs.Refused.{values_text, refusal_text}

ended : (xs : List ℕ) → beside xs ++ (10 ∷ []) ≡ values_text xs
ended [] = refl
ended (x ∷ xs) = ap (λ (t : List ℕ). 9 ∷ t) (append_assoc (decimal x) (beside xs) (10 ∷ []) ∙ ap (λ (t : List ℕ). decimal x ++ t) (ended xs))

pub line : (a : ℕ × List ℕ) → 114 ∷ (101 ∷ (102 ∷ (117 ∷ (115 ∷ (101 ∷ (100 ∷ (9 ∷ (printed a ++ (10 ∷ []))))))))) ≡ refusal_text a
line a = ap (λ (t : List ℕ). 114 ∷ (101 ∷ (102 ∷ (117 ∷ (115 ∷ (101 ∷ (100 ∷ (9 ∷ t))))))))
    (append_assoc (decimal a.0) (beside a.1) (10 ∷ []) ∙ ap (λ (t : List ℕ). decimal a.0 ++ t) (ended a.1))
