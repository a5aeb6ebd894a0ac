-- One clock more of a list.
use Rattle.std.proofs.Common.{◌≡◌, ℕ, ◌+◌, ◌*◌, ◌≤◌, List, [], ◌∷◌, ◌++◌, length, sym, refl, ap, ◌∙◌, append_assoc, append-nil, arith}
use Rattle.rules.specs.declared.pins.Pins.{Pins}
use Rattle.rules.specs.Meaning.{Meaning, step, out, run, outs}
use Rattle.verdict.specs.declared.writing.Page.{Page}
use Rattle.verdict.specs.Wrote.{Writes}
use Rattle.verdict.specs.Page.{clock_text, clocks_text}
use Rattle.verdict.proofs.Joins.{writes_none, writes_both, writes_as}

-- of the clocks ps, which m is given, k are behind n and rest is before it; the page q has what they answered
pub record Far (m n : Meaning) (ps rest : List Pins) (k : ℕ) (p q : Page) : Type 0 where
  pub run : run n rest ≡ run m ps
  pub count : k + length rest ≡ length ps
  pub text : List ℕ
  pub writes : Writes p text q
  pub whole : text ++ clocks_text (k + 1) (outs n rest) ≡ clocks_text 1 (outs m ps)
  pub bound : q.end ≤ p.end + 16 * k

pub far_none : (m : Meaning) (ps rest : List Pins) (k : ℕ) (p : Page) → rest ≡ ps → k ≡ 0 → Far m m ps rest k p p
far_none m ps rest k p e z = rw (e, z) (record { run = refl; count = omega arith; text = []; writes = writes_none p; whole = refl; bound = omega arith })

-- n' is the device after the clock x, and a what it answers
pub far_more : {m n : Meaning} {ps rest : List Pins} {k : ℕ} {p q : Page} (n' : Meaning) (rest' : List Pins) (q' : Page) (k' : ℕ) (x : Pins) (a : ℕ × ℕ)
    → Far m n ps rest k p q → rest ≡ x ∷ rest' → k' ≡ k + 1 → n' ≡ step n x → a ≡ out n x → Writes q (clock_text (k + 1) a) q' → q'.end ≤ q.end + 16
    → Far m n' ps rest' k' p q'
far_more {m} {n} {ps} {rest} {k} {p} {q} n' rest' q' k' x a f r e s o w b = rw e (record {
  run = ap (λ (u : Meaning). run u rest') s ∙ ap (run n) (sym r) ∙ f.run;
  count = omega (arith, f.count, ap length r);
  text = f.text ++ clock_text (k + 1) a;
  writes = writes_both f.writes w;
  whole =
      append_assoc f.text (clock_text (k + 1) a) _
      ∙ ap (λ (t : List ℕ). f.text ++ t) (λ i. clock_text (k + 1) (o i) ++ clocks_text (k + 1 + 1) (outs (s i) rest'))
      ∙ ap (λ (ps : List Pins). f.text ++ clocks_text (k + 1) (outs n ps)) (sym r) ∙ f.whole;
  bound = omega (arith, f.bound, b);
})

pub record Through (m n : Meaning) (ps : List Pins) (p q : Page) : Type 0 where
  pub after : n ≡ run m ps
  pub writes : Writes p (clocks_text 1 (outs m ps)) q
  pub bound : q.end ≤ p.end + 16 * length ps

pub far_all : {m n : Meaning} {ps rest : List Pins} {k : ℕ} {p q : Page} → Far m n ps rest k p q → rest ≡ [] → Through m n ps p q
far_all {m} {n} {ps} {rest} {k} f e = record {
  after = ap (run n) (sym e) ∙ f.run;
  writes = writes_as (sym (append-nil f.text) ∙ ap (λ (ps : List Pins). f.text ++ clocks_text (k + 1) (outs n ps)) (sym e) ∙ f.whole) f.writes;
  bound = omega (arith, f.bound, f.count);
}
