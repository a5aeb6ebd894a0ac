-- A test that passes at every number below n, computed one after the other.
use Rattle.std.proofs.Common.{◌≡◌, ℕ, zero, suc, ◌<◌, Bool, true, ◌&&◌, ap, ◌∙◌, ⊎_elim, le_of_suc-le-suc, not-suc-le-zero, eq-or-lt_of_le}
use Rattle.std.proofs.lemmas.Bool.{and_parts}

abbrev pub every : (ℕ → Bool) → ℕ → Bool
every t zero = true
every t (suc n) = t n && every t n

pub every_one : (t : ℕ → Bool) (n i : ℕ) → every t n ≡ true → i < n → t i ≡ true
every_one t zero i e h = absurd (not-suc-le-zero h)
every_one t (suc n) i e h =
    let k = and_parts (t n) (every t n) e in
    ⊎_elim (λ q. ap t q ∙ k.0) (λ l. every_one t n i k.1 l) (eq-or-lt_of_le (le_of_suc-le-suc h))
