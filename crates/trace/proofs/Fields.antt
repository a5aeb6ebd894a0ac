-- The fields of the sheet line, one field on.
use Rattle.std.proofs.Common.{◌≡◌, ℕ, suc, ◌+◌, ◌-◌, ◌<◌, List, [], ◌∷◌, ◌++◌, length, take, drop, set, Some, None, Option, refl, add_assoc, zero-add, arith}
use Rattle.std.proofs.lemmas.List.{append_assoc, length-set, take_more_set, take_rest, drop-drop}
use Rattle.trace.specs.Digits.{if_some}
use Rattle.trace.specs.Opening.{end_before, field_of, fields_of}

-- the fields that are still to be read, behind those that were
abbrev pub after : List ℕ → ℕ → Option (List ℕ × ℕ) → Option (List ℕ × ℕ)
after got n more = if_some more (λ m. Some (got ++ m.0, n + m.1))

regrouped : (got : List ℕ) (n v w : ℕ) (more : Option (List ℕ × ℕ)) → after got n (if_some more (λ m. Some (v ∷ m.0, w + m.1))) ≡ after (got ++ v ∷ []) (n + w) more
regrouped got n v w None = refl
regrouped got n v w (Some m) = rw (append_assoc got (v ∷ []) m.0, add_assoc n w m.1) refl

fields_some : (k : ℕ) (bs got : List ℕ) (n v w : ℕ) → Some (v, w) ≡ field_of (end_before k) bs → after got n (fields_of (suc k) bs) ≡ after (got ++ v ∷ []) (n + w) (fields_of k (drop w bs))
fields_some k bs got n v w e = rw (← e) (regrouped got n v w (fields_of k (drop w bs)))

pub fields_more : (text xs : List ℕ) (i n k v w end : ℕ) → k + (i + 1) ≡ length xs → end ≡ end_before k → Some (v, w) ≡ field_of end (take (length text - n) (drop n text)) → after (take i xs) n (fields_of (length xs - i) (drop n text)) ≡ after (take (i + 1) (set xs i v)) (n + w) (fields_of (length (set xs i v) - (i + 1)) (drop (n + w) text))
fields_more text xs i n k v w end l e f =
    let below : i < length xs = omega arith in
    let a : length xs - i ≡ suc k = omega arith in
    let b : length xs - (i + 1) ≡ k = omega arith in
    rw (a, length-set xs i v, b, take_more_set xs i v below, ← drop-drop w n text)
    (fields_some k (drop n text) (take i xs) n v w (rw (← e, ← take_rest text n) f))

pub fields_none : (text xs : List ℕ) (i n k end : ℕ) → k + (i + 1) ≡ length xs → end ≡ end_before k → None ≡ field_of end (take (length text - n) (drop n text)) → after (take i xs) n (fields_of (length xs - i) (drop n text)) ≡ None
fields_none text xs i n k end l e f =
    let a : length xs - i ≡ suc k = omega arith in
    let g : None ≡ field_of (end_before k) (drop n text) = rw (← e, ← take_rest text n) f in
    rw (a, ← g) refl

pub after_none : (more : Option (List ℕ × ℕ)) → after [] 0 more ≡ more
after_none None = refl
after_none (Some m) = rw (zero-add m.1) refl
