-- The last line of the output.
use Rattle.std.proofs.Common.{Some, None, Option, ◌≡◌, ℕ, ◌+◌, ◌%◌, ◌^◌, ◌<◌, Bool, true, false, ◌||◌, eqb, List, [], ◌∷◌, ◌++◌, get_or, decimal, sym, refl, ap, ◌∙◌, append_assoc, arith}
use Rattle.std.proofs.lemmas.Fmt.{decimal_by_steps}
use Rattle.std.proofs.lemmas.Bool.{ne_eqb}
use Rattle.rules.specs.declared.state.OpenRow.{OpenRow}
use Rattle.verdict.specs.Page.{kind, bank_line, ok_line, fault_line}
use Rattle.verdict.specs.Stands.{breaks, last_line}

either_true : (b c : Bool) → c ≡ true → (b || c) ≡ true
either_true true c e = refl
either_true false c e = e

both_false : (b c : Bool) → b ≡ false → c ≡ false → (b || c) ≡ false
both_false b c e f = rw (e, f) refl

breaks_in : (xs : List ℕ) (c : ℕ) (cs : List ℕ) → breaks (xs ++ (10 ∷ (c ∷ cs))) ≡ true
breaks_in [] c cs = refl
breaks_in (x ∷ []) c cs = either_true (eqb x 10) true refl
breaks_in (x ∷ (y ∷ ys)) c cs = either_true (eqb x 10) _ (breaks_in (y ∷ ys) c cs)

-- the line behind a LF, if it has none inside
pub last_at : (xs : List ℕ) (c : ℕ) (cs : List ℕ) → breaks (c ∷ cs) ≡ false → last_line (xs ++ (10 ∷ (c ∷ cs))) ≡ c ∷ cs
last_at [] c cs e = rw e refl
last_at (x ∷ xs) c cs e = rw (breaks_in (x ∷ xs) c cs) (last_at xs c cs e)

-- no LF among the bytes
abbrev Free : List ℕ → Type 0
Free [] = Unit {0}
Free (b ∷ bs) = (eqb b 10 ≡ false) × Free bs

free_both : (xs ys : List ℕ) → Free xs → Free ys → Free (xs ++ ys)
free_both [] ys f g = g
free_both (x ∷ xs) ys f g = (f.0, free_both xs ys f.1 g)

free_line : (xs : List ℕ) (b : ℕ) → Free xs → breaks (xs ++ (b ∷ [])) ≡ false
free_line [] b f = refl
free_line (x ∷ []) b f = both_false (eqb x 10) false f.0 refl
free_line (x ∷ (y ∷ ys)) b f = both_false (eqb x 10) _ f.0 (free_line (y ∷ ys) b f.1)

free_decimal : (n : ℕ) → n < 2 ^ 64 → Free (decimal n)
free_decimal n h =
    decimal_by_steps (λ m ds. Free ds) (λ m l. (ne_eqb (48 + m) 10 (λ e. omega arith), tt))
    (λ m ds l f. free_both ds ((48 + m % 10) ∷ []) f (ne_eqb (48 + m % 10) 10 (λ e. omega arith), tt)) n h

pub ok_last : (xs : List ℕ) (n : ℕ) → n < 2 ^ 64 → last_line (xs ++ (10 ∷ ok_line n)) ≡ ok_line n
ok_last xs n h = last_at xs 111 (107 ∷ (9 ∷ (decimal n ++ (10 ∷ [])))) (free_line (111 ∷ (107 ∷ (9 ∷ decimal n))) 10 (refl, (refl, (refl, free_decimal n h))))

pub fault_last : (xs : List ℕ) (k t : ℕ) → k < 2 ^ 64 → t < 2 ^ 64 → last_line (xs ++ (10 ∷ fault_line k t)) ≡ fault_line k t
fault_last xs k t h l =
    let body : List ℕ = decimal k ++ (9 ∷ decimal t) in
    let same : body ++ (10 ∷ []) ≡ decimal k ++ (9 ∷ (decimal t ++ (10 ∷ []))) = append_assoc (decimal k) (9 ∷ decimal t) (10 ∷ []) in
    let free : breaks (102 ∷ (97 ∷ (117 ∷ (108 ∷ (116 ∷ (9 ∷ (body ++ (10 ∷ [])))))))) ≡ false =
    free_line (102 ∷ (97 ∷ (117 ∷ (108 ∷ (116 ∷ (9 ∷ body)))))) 10
    (refl, (refl, (refl, (refl, (refl, (refl, free_both (decimal k) (9 ∷ decimal t) (free_decimal k h) (refl, free_decimal t l))))))) in
    last_at xs 102 (97 ∷ (117 ∷ (108 ∷ (116 ∷ (9 ∷ (decimal k ++ (9 ∷ (decimal t ++ (10 ∷ []))))))))) (rw (sym same) free)

-- a bank's line ends in its LF
bank_front : (name : ℕ) (r : Option OpenRow) → (xs : List ℕ) × (bank_line name r ≡ xs ++ (10 ∷ []))
bank_front name None = (name ∷ (9 ∷ (105 ∷ (100 ∷ (108 ∷ (101 ∷ []))))), refl)
bank_front name (Some r) = (
  name ∷ (9 ∷ (97 ∷ (99 ∷ (116 ∷ (105 ∷ (118 ∷ (101 ∷ (9 ∷ (decimal r.row ++ (9 ∷ kind r.masked)))))))))),
  ap (λ (x : List ℕ). name ∷ (9 ∷ (97 ∷ (99 ∷ (116 ∷ (105 ∷ (118 ∷ (101 ∷ (9 ∷ x))))))))) (sym (append_assoc (decimal r.row) (9 ∷ kind r.masked) (10 ∷ []))),
)

pub behind_bank : (xs line : List ℕ) (name : ℕ) (r : Option OpenRow) → (ys : List ℕ) × (xs ++ (bank_line name r ++ line) ≡ ys ++ (10 ∷ line))
behind_bank xs line name r =
    let f = bank_front name r in
    (xs ++ f.0, ap (λ (b : List ℕ). xs ++ (b ++ line)) f.1 ∙ ap (λ (b : List ℕ). xs ++ b) (append_assoc f.0 (10 ∷ []) line) ∙ sym (append_assoc xs f.0 (10 ∷ line)))

pub differ : (n k t : ℕ) → ok_line n ≡ fault_line k t → ⊥
differ n k t e = let z : ◌≡◌ {A = ℕ} 111 102 = ap (λ (x : List ℕ). get_or x 0 0) e in omega arith
