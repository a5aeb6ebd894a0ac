-- The ring of marks as a list, oldest first.
use Rattle.std.proofs.Common.{◌≡◌, ℕ, suc, ◌+◌, ◌-◌, ◌<◌, ◌≤◌, List, [], ◌∷◌, ◌++◌, length, get_or, take, drop, set, replicate, sym, refl, ap, ◌∙◌, subst, append_assoc, append-nil, add-one, arith, length-take, drop-cons, get_or-take, take-suc-set, drop-set-lt}
use lib.Seq.{take-set-lt}
use Rattle.std.proofs.lemmas.List.{drop_all}
use Rattle.lines.specs.declared.marks.Lap.{Lap}
use Rattle.lines.specs.declared.marks.Lap.TheVariants.{Unset, First, Later}
use Rattle.rules.specs.Delay.{passed}
use Rattle.lines.specs.Ring.{ring, turned}

-- the part behind the head begins with the mark at the head
some_left : (n h b : ℕ) → h < n → replicate (n - h) b ≡ b ∷ replicate (n - suc h) b
some_left n h b lt = let e : n - h ≡ suc (n - suc h) = omega arith in ap (λ (k : ℕ). replicate k b) e

headed : (xs : List ℕ) (n h : ℕ) → h < n → n ≤ length xs → drop h (take n xs) ≡ get_or xs h 0 ∷ drop (suc h) (take n xs)
headed xs n h lt le =
    let in' : h < length (take n xs) = simp length-take (omega arith) in
    drop-cons (take n xs) h 0 in' ∙ ap (λ (v : ℕ). v ∷ drop (suc h) (take n xs)) (get_or-take n xs h 0 lt)

slid : {r : List ℕ} {x : ℕ} {rs : List ℕ} (ys : List ℕ) (t : ℕ) → r ≡ x ∷ rs → passed (r ++ ys) t ≡ rs ++ (ys ++ t ∷ [])
slid {x = x} {rs = rs} ys t e = ap (λ r. passed (r ++ ys) t) e ∙ append_assoc rs ys (t ∷ [])

moved_on : (l : Lap) (xs : List ℕ) (n h t : ℕ) → n ≤ length xs → suc h < n → ring l (set xs h t) n (suc h) ≡ passed (ring l xs n h) t
moved_on Unset xs n h t le lt = refl
moved_on (First b) xs n h t le lt =
    ap (λ ys. replicate (n - suc h) b ++ ys) (take-suc-set xs h t (omega arith)) ∙ sym (slid (take h xs) t (some_left n h b (omega arith)))
moved_on Later xs n h t le lt =
    let same : drop (suc h) (take n (set xs h t)) ≡ drop (suc h) (take n xs) =
    ap (drop (suc h)) (take-set-lt n xs h t (omega arith)) ∙ drop-set-lt (suc h) (take n xs) h t (omega arith) in
    ap (λ r. r ++ take (suc h) (set xs h t)) same
    ∙ ap (λ ys. drop (suc h) (take n xs) ++ ys) (take-suc-set xs h t (omega arith))
    ∙ sym (slid (take h xs) t (headed xs n h (omega arith) le))

full : (l : Lap) (xs : List ℕ) (h t : ℕ) → suc h ≤ length xs → ring (turned l) (set xs h t) (suc h) 0 ≡ passed (ring l xs (suc h) h) t
full Unset xs h t le = refl
full (First b) xs h t le =
    let zero_left : suc h - suc h ≡ 0 = omega arith in
    let none : replicate (suc h - suc h) b ≡ [] = ap (λ (k : ℕ). replicate k b) zero_left in
    append-nil _ ∙ take-suc-set xs h t le ∙ sym (slid (take h xs) t (some_left (suc h) h b (omega arith)) ∙ ap (λ r. r ++ (take h xs ++ t ∷ [])) none)
full Later xs h t le =
    let none : drop (suc h) (take (suc h) xs) ≡ [] = drop_all (suc h) (take (suc h) xs) (simp length-take (omega arith)) in
    append-nil _ ∙ take-suc-set xs h t le ∙ sym (slid (take h xs) t (headed xs (suc h) h (omega arith) le) ∙ ap (λ r. r ++ (take h xs ++ t ∷ [])) none)

-- the same in the code's words
pub pushed : (l : Lap) (xs : List ℕ) (n h t : ℕ) → length xs ≡ 1024 → n ≤ 1024 → h + 1 < n → ring l (set xs h t) n (h + 1) ≡ passed (ring l xs n h) t
pushed l xs n h t long le lt = rw add-one (moved_on l xs n h t (omega arith) (omega arith))

pub wrapped : (l : Lap) (xs : List ℕ) (n h t : ℕ) → length xs ≡ 1024 → n ≤ 1024 → h < n → n ≤ h + 1 → ring (turned l) (set xs h t) n 0 ≡ passed (ring l xs n h) t
wrapped l xs n h t long le lt last =
    let e : suc h ≡ n = omega arith in
    subst (λ (k : ℕ). ring (turned l) (set xs h t) k 0 ≡ passed (ring l xs k h) t) e (full l xs h t (omega arith))
