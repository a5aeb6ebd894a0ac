-- The heading of a listing, one line on.
use Rattle.std.proofs.Common.{◌≡◌, ℕ, List, [], ◌∷◌, ◌++◌, map, sym, refl, ap, ◌∙◌, append_assoc, append-nil, ◌⊎◌, inl, inr}
use Rattle.std.specs.Borrow.{Bor}
use Rattle.listing.specs.Page.{field_text, heading_text}

-- the names that are referred to
abbrev pub now : List (Bor (List ℕ)) → List (List ℕ)
now ns = map (λ n. n.now) ns

-- with the lines of the fields that are left behind it, the text so far is the whole
pub heads_more : (text all : List ℕ) (ns ns' : List (Bor (List ℕ))) (xs xs' text' line : List ℕ) (n : Bor (List ℕ)) (x : ℕ) → text ++ heading_text (now ns) xs ≡ all → ns ≡ n ∷ ns' → xs ≡ x ∷ xs' → text' ≡ text ++ line → line ≡ field_text n.now x → text' ++ heading_text (now ns') xs' ≡ all
heads_more text all ns ns' xs xs' text' line n x h e f t l = rw (t, l) (
    append_assoc text (field_text n.now x) _ ∙ (λ i. text ++ heading_text (now (sym e i)) (sym f i)) ∙ h)

-- no line where names or values have ended
ended : (ns : List (Bor (List ℕ))) (xs : List ℕ) → (ns ≡ []) ⊎ (xs ≡ []) → heading_text (now ns) xs ≡ []
ended ns xs (inl e) = rw e refl
ended [] xs (inr e) = refl
ended (n ∷ ns) xs (inr e) = rw e refl

pub heads_all : (text all : List ℕ) (ns : List (Bor (List ℕ))) (xs : List ℕ) → text ++ heading_text (now ns) xs ≡ all → (ns ≡ []) ⊎ (xs ≡ []) → text ≡ all
heads_all text all ns xs h e = sym (append-nil text) ∙ ap (λ (t : List ℕ). text ++ t) (sym (ended ns xs e)) ∙ h
