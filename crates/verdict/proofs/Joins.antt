-- Text written in parts.
use Rattle.std.proofs.Common.{◌≡◌, ℕ, zero, suc, ◌-◌, ◌/◌, ◌%◌, ◌<◌, ◌≤◌, true, List, [], ◌∷◌, ◌++◌, length, take, drop, sym, refl, ap, ◌∙◌, subst, append_assoc, append-nil, add-zero, arith, length-append, length-take}
use Rattle.std.proofs.lemmas.List.{drop-drop, take-append-drop}
use Rattle.std.specs.Fmt.{digit_glyph}
use Rattle.trace.specs.Digits.{hex}
use Rattle.verdict.specs.declared.writing.Page.{Page}
use Rattle.verdict.specs.Wrote.{Wrote, Writes}

pub wrote_none : (xs : List ℕ) (i : ℕ) → Wrote xs i [] xs i
wrote_none xs i = record { ends = sym (add-zero i); long = refl; front = sym (append-nil (take i xs)); rest = refl }

-- one text after another
pub wrote_both : {a b c s t : List ℕ} {i j k : ℕ} → Wrote a i s b j → Wrote b j t c k → Wrote a i (s ++ t) c k
wrote_both {a} {b} {c} {s} {t} {i} {j} {k} p q =
    record {
      ends = simp length-append (omega (arith, p.ends, q.ends));
      long = q.long ∙ p.long;
      front = q.front ∙ ap (λ (x : List ℕ). x ++ t) p.front ∙ simp append_assoc;
      rest =
          q.rest ∙ ap (λ (n : ℕ). drop n b) q.ends ∙ sym (drop-drop (length t) j b) ∙
          ap (drop (length t)) p.rest ∙ drop-drop (length t) j a ∙ ap (λ (n : ℕ). drop n a) (sym q.ends);
    }

-- one text after another on a page
pub writes_both : {p q r : Page} {s t : List ℕ} → Writes p s q → Writes q t r → Writes p (s ++ t) r
writes_both v w = record { wrote = wrote_both v.wrote w.wrote; lender = w.lender ∙ v.lender }

pub writes_none : (p : Page) → Writes p [] p
writes_none p = record { wrote = wrote_none p.out.now p.end; lender = refl }

pub writes_as : {p q : Page} {s t : List ℕ} → s ≡ t → Writes p s q → Writes p t q
writes_as {p} {q} e w = subst (λ (x : List ℕ). Writes p x q) e w

-- hexadecimal digits, the last one behind the others
pub hex_last : (n v : ℕ) → 0 < n → hex (n - 1) (v / 16) ++ (digit_glyph true (v % 16) ∷ []) ≡ hex n v
hex_last zero v h = absurd (omega arith)
hex_last (suc n) v h = let e : suc n - 1 ≡ n = omega arith in rw e refl

pub length_hex : (n v : ℕ) → length (hex n v) ≡ n
length_hex zero v = refl
length_hex (suc n) v = simp length-append (omega (arith, length_hex n (v / 16)))

pub wrote_as : {a b s t : List ℕ} {i j : ℕ} → s ≡ t → Wrote a i s b j → Wrote a i t b j
wrote_as {a} {b} {s} {t} {i} {j} e w = subst (λ (x : List ℕ). Wrote a i x b j) e w

-- all that a buffer holds after text from its start on
pub wrote_all : {a b s : List ℕ} {j : ℕ} → Wrote a 0 s b j → (j ≡ length s) × (b ≡ s ++ drop (length s) a)
wrote_all {a} {b} {s} {j} w =
    let e : j ≡ length s = omega (arith, w.ends) in
    (e, sym (take-append-drop j b) ∙ ap (λ (x : List ℕ). x ++ drop j b) w.front ∙ ap (λ (x : List ℕ). s ++ x) (w.rest ∙ ap (λ (n : ℕ). drop n a) e))

pub wrote_within : {a b s : List ℕ} {j : ℕ} → Wrote a 0 s b j → j ≤ length a
wrote_within {a} {b} {s} {j} w = omega (arith, w.ends, w.long, ap length w.front, length-take j b)

-- what a lent buffer holds after text on a page that was empty
pub lent_back : {p q : Page} {s : List ℕ} (before after : List ℕ) (r : ℕ) → p.out.now ≡ before → p.end ≡ 0 → Writes p s q → after ≡ q.out.now → r ≡ q.end → Wrote before 0 s after r
lent_back {p} {q} {s} before after r b z w a e =
    let t : Wrote before 0 s q.out.now q.end = subst (λ (x : List ℕ). Wrote x 0 s q.out.now q.end) b (subst (λ (i : ℕ). Wrote p.out.now i s q.out.now q.end) z w.wrote) in
    rw (a, e) t
