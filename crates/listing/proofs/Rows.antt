-- The lines of a listing, one line on.
use Rattle.std.proofs.Common.{◌≡◌, ℕ, ◌+◌, List, [], ◌∷◌, ◌++◌, length, sym, refl, ap, ◌∙◌, append_assoc, append-nil, arith}
use Rattle.rules.specs.declared.pins.Pins.{Pins}
use Rattle.listing.specs.Page.{row_text, rows_text}

-- with the lines of the rest behind it, the text so far is the whole
pub record Rows (cl k : ℕ) (ps rest : List Pins) (text : List ℕ) : Type 0 where
  pub count : k + length rest ≡ length ps
  pub whole : text ++ rows_text cl (k + 1) rest ≡ rows_text cl 1 ps

pub rows_none : (cl k : ℕ) (ps rest : List Pins) (text : List ℕ) → rest ≡ ps → k ≡ 0 → text ≡ [] → Rows cl k ps rest text
rows_none cl k ps rest text e z n = rw (e, z, n) (record { count = omega arith; whole = refl })

pub rows_more : {cl k : ℕ} {ps rest : List Pins} {text : List ℕ} (k' : ℕ) (rest' : List Pins) (text' line : List ℕ) (p : Pins) → Rows cl k ps rest text → rest ≡ p ∷ rest' → k' ≡ k + 1 → text' ≡ text ++ line → line ≡ row_text cl (k + 1) p → Rows cl k' ps rest' text'
rows_more {cl} {k} {ps} {rest} {text} k' rest' text' line p r e s t l = rw (s, t, l) (record {
  count = omega (arith, r.count, ap length e);
  whole = append_assoc text (row_text cl (k + 1) p) _ ∙ ap (λ (xs : List Pins). text ++ rows_text cl (k + 1) xs) (sym e) ∙ r.whole;
})

pub rows_all : {cl k : ℕ} {ps rest : List Pins} {text : List ℕ} → Rows cl k ps rest text → rest ≡ [] → text ≡ rows_text cl 1 ps
rows_all {cl} {k} {text = text} r e = sym (append-nil text) ∙ ap (λ (xs : List Pins). text ++ rows_text cl (k + 1) xs) (sym e) ∙ r.whole
