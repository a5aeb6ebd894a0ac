-- The line of reads.
use Rattle.std.proofs.Common.{◌≡◌, ℕ, zero, suc, ◌+◌, ◌-◌, ◌<◌, ◌≤◌, false, List, [], ◌∷◌, ◌++◌, map, replicate, Some, None, Option, sym, refl, ap, ◌∙◌, add-zero, arith, le-ltb, lt-ltb}
use Rattle.std.proofs.lemmas.List.{map-append}
use lib.Bits.{bit_and}
use Rattle.rules.specs.Words.{wide}
use Rattle.rules.specs.Delay.{passed, leaving, any_in}
use Rattle.rules.specs.Faults.{lanes_of}
use Rattle.schedule.specs.Line.{beats, words, silent, driven}
use Rattle.schedule.specs.Reading.{window, expected}

-- a line of any kind

pub map_passed : {X Y : Type 0} (f : X → Y) (xs : List X) (x : X) → passed (map f xs) (f x) ≡ map f (passed xs x)
map_passed f [] x = refl
map_passed f (y ∷ ys) x = sym (map-append f ys (x ∷ []))

pub map_same : {X Y : Type 0} (f : X → Y) (k : ℕ) (x : X) → map f (replicate k x) ≡ replicate k (f x)
map_same f zero x = refl
map_same f (suc k) x = ap (λ zs. f x ∷ zs) (map_same f k x)

push_same : {X : Type 0} (k : ℕ) (x : X) → replicate k x ++ (x ∷ []) ≡ x ∷ replicate k x
push_same zero x = refl
push_same (suc k) x = ap (λ zs. x ∷ zs) (push_same k x)

pub passed_same : {X : Type 0} (k : ℕ) (x : X) → passed (replicate k x) x ≡ replicate k x
passed_same zero x = refl
passed_same (suc k) x = push_same k x

pub leaving_same : {X : Type 0} (k : ℕ) (x : X) → leaving x (replicate k x) ≡ x
leaving_same zero x = refl
leaving_same (suc k) x = refl

-- what leaves the line is driven

pub driven_lanes : (line : List (Option ℕ)) → lanes_of 0 (leaving false (beats line)) ≡ (driven (leaving None line)).0
driven_lanes [] = refl
driven_lanes (None ∷ xs) = refl
driven_lanes (Some w ∷ xs) = refl

pub driven_line : (line : List (Option ℕ))
    → (lanes_of 0 (leaving false (beats line)), bit_and (leaving 0 (words line)) (wide (lanes_of 0 (leaving false (beats line))))) ≡ driven (leaving None line)
driven_line [] = refl
driven_line (None ∷ xs) = refl
driven_line (Some w ∷ xs) = refl

-- a silent line

pub passed_silent : (k : ℕ) → passed (silent k) None ≡ silent k
passed_silent k = passed_same k None

pub leaving_silent : (k : ℕ) → leaving None (silent k) ≡ None
leaving_silent k = leaving_same k None

pub none_in_silent : (k : ℕ) → any_in (beats (silent k)) ≡ false
none_in_silent zero = refl
none_in_silent (suc k) = none_in_silent k

-- the window of a stretch

snoc : (w : ℕ → Option ℕ) (j l : ℕ) → window w j l ++ (w (j + l) ∷ []) ≡ window w j (suc l)
snoc w j zero = ap {B = List (Option ℕ)} (λ x. w x ∷ []) (add-zero j)
snoc w j (suc l) =
    let e : j + suc l ≡ suc j + l = omega arith in
    ap {B = List (Option ℕ)} (λ x. w j ∷ (window w (suc j) l ++ (w x ∷ []))) e ∙ ap {B = List (Option ℕ)} (λ xs. w j ∷ xs) (snoc w (suc j) l)

pub window_passed : (w : ℕ → Option ℕ) (j l : ℕ) (x : Option ℕ) → x ≡ w (j + l) → passed (window w j l) x ≡ window w (suc j) l
window_passed w j zero x e = refl
window_passed w j (suc l) x e =
    let q : j + suc l ≡ suc j + l = omega arith in
    ap {B = List (Option ℕ)} (λ y. window w (suc j) l ++ (y ∷ [])) (e ∙ ap w q) ∙ snoc w (suc j) l

pub window_silent : (w : ℕ → Option ℕ) (j l : ℕ) → ((i : ℕ) → j ≤ i → i < j + l → w i ≡ None) → window w j l ≡ silent l
window_silent w j zero h = refl
window_silent w j (suc l) h =
    λ i. h j (omega arith) (omega arith) i ∷ window_silent w (suc j) l (λ x p q. h x (omega arith) (omega arith)) i

pub expected_early : (f : ℕ → ℕ) (a k cl i : ℕ) → i < cl → expected f a k cl i ≡ None
expected_early f a k cl i h = rw (lt-ltb i cl h) refl

pub expected_late : (f : ℕ → ℕ) (a k cl i : ℕ) → k + cl ≤ i → expected f a k cl i ≡ None
expected_late f a k cl i h = rw (le-ltb i cl (omega arith), le-ltb (i - cl) k (omega arith)) refl

pub expected_word : (f : ℕ → ℕ) (a k cl i : ℕ) → cl ≤ i → i < k + cl → expected f a k cl i ≡ Some (f (a + (i - cl)))
expected_word f a k cl i h q = rw (le-ltb i cl h, lt-ltb (i - cl) k (omega arith)) refl
