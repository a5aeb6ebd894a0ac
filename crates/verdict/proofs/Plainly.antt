-- An answer in plain numbers.
use Rattle.std.proofs.Common.{◌≡◌, ℕ, List, length, get_or, Some, None, Ok, Err, Option, unwrap_or, ap, ◌∙◌}
use Rattle.std.specs.Option.{option_to_list}
use Rattle.trace.specs.Answer.{Reply}
use Rattle.verdict.specs.Judged.{Said, written}
use Rattle.verdict.specs.Plain.{plain}

pub plain_ok : (j : Reply Said) (n : ℕ) → Ok n ≡ written j → record { number = 0; place = 0; written = n } ≡ plain j
plain_ok (Ok s) n e = let same : n ≡ length s.output = cc in λ i. record { number = 0; place = 0; written = same i }
plain_ok (Err x) n e = cc

pub plain_err : (j : Reply Said) (e : ℕ × List ℕ) (number place : ℕ) → Err e ≡ written j → number ≡ e.0 → place ≡ get_or e.1 0 0
    → record { number = number; place = place; written = 0 } ≡ plain j
plain_err (Ok s) e number place h p q = cc
plain_err (Err x) e number place h p q =
    let same : e ≡ x = cc in
    let p' : number ≡ x.0 = p ∙ ap (λ (y : ℕ × List ℕ). y.0) same in
    let q' : place ≡ get_or x.1 0 0 = q ∙ ap (λ (y : ℕ × List ℕ). get_or y.1 0 0) same in
    λ i. record { number = p' i; place = q' i; written = 0 }

-- the value that there may be
pub value_is : (o : Option ℕ) (xs : List ℕ) (v : ℕ) → v ≡ unwrap_or o 0 → option_to_list o ≡ xs → v ≡ get_or xs 0 0
value_is None xs v e h = e ∙ ap (λ (ys : List ℕ). get_or ys 0 0) h
value_is (Some x) xs v e h = e ∙ ap (λ (ys : List ℕ). get_or ys 0 0) h
