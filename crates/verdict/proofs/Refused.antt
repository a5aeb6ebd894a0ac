-- Texts that are refused, and how large the place or the line beside the number can be.
use Rattle.std.proofs.Common.{◌≡◌, ℕ, zero, suc, ◌+◌, ◌/◌, ◌<◌, ◌≤◌, Bool, true, false, cond, eqb, ltb, ◌⊎◌, List, [], ◌∷◌, length, get_or, drop, Some, None, Ok, Err, Option, sym, refl, ap, ◌∙◌, inl, inr, ⊎_elim, arith}
use Rattle.std.proofs.lemmas.Bool.Decides.{nat_tests}
use Rattle.sheet.specs.Admit.{ranges, refusal, out_of, checked, verdict}
use Rattle.sheet.specs.declared.admit.SheetError.TheVariants.{RoundTooLong}
use Rattle.rules.specs.declared.pins.Pins.{Pins}
use Rattle.trace.specs.declared.refusal.Refusal.TheVariants.{TextTooLong, NoSheet, IllFormedLine}
use Rattle.trace.specs.Answer.{Reply, answer, on}
use Rattle.trace.specs.Clock.{pins_of}
use Rattle.trace.specs.Opening.{heading_of, opened, admitted, sheet_line, limit}
use Rattle.trace.specs.Body.{cut, pieces, joined, read, clocks_of}

-- the value beside a refusal's number, or 0
abbrev pub place : ℕ × List ℕ → ℕ
place e = get_or e.1 0 0

differ : (e : ℕ × List ℕ) {X : Type 0} (x : X) → Err e ≡ Ok x → ⊥
differ e x h = cc

-- a field out of range has its place
one_checked : (i n : ℕ) (more last : ℕ × List ℕ) (b : Bool) → (place more ≤ suc i + n) ⊎ (more ≡ last)
    → (place (cond b (1, suc i ∷ []) more) ≤ i + suc n) ⊎ (cond b (1, suc i ∷ []) more ≡ last)
one_checked i n more last true h = inl (omega arith)
one_checked i n more last false (inl h) = inl (omega arith)
one_checked i n more last false (inr h) = inr h

checked_place : (xs : List ℕ) (i : ℕ) (rs : List (ℕ × ℕ)) (last : ℕ × List ℕ) → (place (checked xs i rs last) ≤ i + length rs) ⊎ (checked xs i rs last ≡ last)
checked_place xs i [] last = inr refl
checked_place xs i (r ∷ rs) last = one_checked i (length rs) (checked xs (suc i) rs last) last (out_of (get_or xs i 0) r) (checked_place xs (suc i) rs last)

not_ok : (v e : ℕ × List ℕ) (b : Bool) → Err e ≡ cond b (Ok v.1) (Err v) → (b ≡ false) × (e ≡ v)
not_ok v e true g = absurd (differ e v.1 g)
not_ok v e false g = (refl, cc)

last_place : (v e : ℕ × List ℕ) (b : Bool) (xs : List ℕ) → v ≡ cond b (refusal RoundTooLong) (0, xs) → eqb v.0 0 ≡ false → e ≡ v → place e ≤ 13
last_place v e true xs h z g = rw (g, h) (omega arith)
last_place v e false xs h z g = let t : true ≡ false = sym (ap (λ (y : ℕ × List ℕ). eqb y.0 0) h) ∙ z in absurd (let n : ◌≡◌ {A = ℕ} 0 1 = cc in omega arith)

admitted_place : (xs : List ℕ) (e : ℕ × List ℕ) → Err e ≡ admitted xs → place e ≤ 13
admitted_place xs e g =
    let n = not_ok (verdict xs) e (eqb (verdict xs).0 0) g in
    ⊎_elim (λ h. rw n.1 h) (λ h. last_place (verdict xs) e _ _ h n.0 n.1) (checked_place xs 0 ranges _)

pub on_err : {X Y : Type 0} (f : X → Y) (r : Reply X) (e : ℕ × List ℕ) → Err e ≡ on f r → Err e ≡ r
on_err f (Ok x) e g = absurd (differ e (f x) g)
on_err f (Err y) e g = cc

opened_place : (b : Bool) (o : Option (List ℕ × ℕ)) (e : ℕ × List ℕ) → Err e ≡ cond b (Err (answer TextTooLong)) (opened o) → place e ≤ 13
opened_place true o e g = let h : e ≡ answer TextTooLong = cc in rw h (omega arith)
opened_place false None e g = let h : e ≡ answer NoSheet = cc in rw h (omega arith)
opened_place false (Some line) e g = admitted_place line.0 e (on_err (λ xs. (xs, line.1)) (admitted line.0) e g)

pub heading_place : (text : List ℕ) (e : ℕ × List ℕ) → Err e ≡ heading_of text → place e ≤ 13
heading_place text e g = opened_place (ltb limit (length text)) (sheet_line text) e g

-- a line that is ill-formed has its number
joined_place : (n k : ℕ) (o : Option Pins) (r : Reply (List Pins)) (e : ℕ × List ℕ) → Err e ≡ joined n o r → (Err e ≡ r → place e < n + 1 + k) → place e < n + suc k
joined_place n k None r e g more = let h : e ≡ answer (IllFormedLine n) = cc in rw h (omega arith)
joined_place n k (Some p) r e g more = omega (arith, more (on_err (λ ps. p ∷ ps) r e g))

read_place : (n : ℕ) (lines : List (List ℕ)) (e : ℕ × List ℕ) → Err e ≡ read n lines → place e < n + length lines
read_place n [] e g = absurd (differ e [] g)
read_place n (line ∷ more) e g = joined_place n (length more) (pins_of line) (read (n + 1) more) e g (read_place (n + 1) more e)

length_cut : (k : ℕ) (bs : List ℕ) → length (cut k bs) ≡ k
length_cut zero bs = refl
length_cut (suc k) bs = ap suc (length_cut k (drop 21 bs))

pub clocks_place : (bs : List ℕ) (e : ℕ × List ℕ) → Err e ≡ on length (clocks_of bs) → place e < 2 + (length bs + 20) / 21
clocks_place bs e g =
    omega (arith, read_place 2 (pieces bs) e (on_err length (clocks_of bs) e g), length_cut ((length bs + 20) / 21) bs)

-- a text that is read has a piece for each clock
joined_length : (n k : ℕ) (o : Option Pins) (r : Reply (List Pins)) (ps : List Pins) → joined n o r ≡ Ok ps → ((qs : List Pins) → r ≡ Ok qs → length qs ≡ k) → length ps ≡ suc k
joined_length n k None r ps g more = absurd (differ _ ps g)
joined_length n k (Some p) (Err e) ps g more = absurd (differ e ps g)
joined_length n k (Some p) (Ok qs) ps g more = let h : p ∷ qs ≡ ps = cc in rw (sym h) (ap suc (more qs refl))

read_length : (n : ℕ) (lines : List (List ℕ)) (ps : List Pins) → read n lines ≡ Ok ps → length ps ≡ length lines
read_length n [] ps g = let h : [] ≡ ps = cc in rw (sym h) refl
read_length n (line ∷ more) ps g = joined_length n (length more) (pins_of line) (read (n + 1) more) ps g (read_length (n + 1) more)

pub clocks_length : (bs : List ℕ) (ps : List Pins) → clocks_of bs ≡ Ok ps → length ps ≡ (length bs + 20) / 21
clocks_length bs ps g = read_length 2 (pieces bs) ps g ∙ length_cut ((length bs + 20) / 21) bs

-- and it is not too long
within_limit : (b : Bool) (r : Reply (List ℕ × ℕ)) (h : List ℕ × ℕ) → Ok h ≡ cond b (Err (answer TextTooLong)) r → b ≡ false
within_limit true r h g = absurd (differ _ h (sym g))
within_limit false r h g = refl

pub heading_limit : (text : List ℕ) (h : List ℕ × ℕ) → Ok h ≡ heading_of text → length text ≤ 65536
heading_limit text h g = let f : ltb limit (length text) ≡ false = within_limit (ltb limit (length text)) _ h g in grind (arith, nat_tests)
