-- Stretches of clocks, put together.
use Rattle.std.proofs.Common.{◌≡◌, ℕ, zero, suc, ◌+◌, true, false, cond, eqb, List, [], ◌∷◌, ◌++◌, replicate, sym, refl, ap, ◌∙◌, subst, arith, length-append}
use Rattle.sheet.specs.declared.sheet.Sheet.{Sheet}
use Rattle.rules.specs.declared.pins.Pins.{Pins}
use Rattle.rules.specs.Meaning.{Meaning, step, out, run, outs}
use Rattle.rules.proofs.Runs.{run_join, outs_join}
use Rattle.schedule.specs.declared.ledger.Ledger.{Ledger}
use Rattle.schedule.specs.Stretch.{heard, Stretch, Rests, Went}

-- one more of the same clock
pub run_more : (k : ℕ) (m : Meaning) (p : Pins) → run m (replicate (k + 1) p) ≡ step (run m (replicate k p)) p
run_more zero m p = refl
run_more (suc k) m p =
    let e : suc k + 1 ≡ suc (k + 1) = omega arith in
    ap (λ n. run m (replicate n p)) e ∙ run_more k (step m p) p

pub heard_append : (os us : List (ℕ × ℕ)) → heard (os ++ us) ≡ heard os ++ heard us
heard_append [] us = refl
heard_append (o ∷ os) us =
    let h = heard_append os us in
    elim (eqb o.0 15) as (λ b. cond b (o.1 ∷ heard (os ++ us)) (heard (os ++ us)) ≡ cond b (o.1 ∷ heard os) (heard os) ++ heard us) [ true ↦ ap (λ ws. o.1 ∷ ws) h | false ↦ h ]

pub stretch_none : (m : Meaning) → Stretch m m 0 []
stretch_none m = record { pins = []; long = refl; leads = refl; words = refl }

pub stretch_one : (m : Meaning) (p : Pins) (o : ℕ × ℕ) → out m p ≡ o → Stretch m (step m p) 1 (heard (o ∷ []))
stretch_one m p o e = record { pins = p ∷ []; long = refl; leads = refl; words = ap (λ u. heard (u ∷ [])) e }

pub stretch_silent : (m : Meaning) (p : Pins) → out m p ≡ (0, 0) → Stretch m (step m p) 1 []
stretch_silent m p e = stretch_one m p (0, 0) e

pub stretch_then : (m m' m'' : Meaning) (a b : ℕ) (us vs : List ℕ) → Stretch m m' a us → Stretch m' m'' b vs → Stretch m m'' (a + b) (us ++ vs)
stretch_then m m' m'' a b us vs s t = record {
  pins = s.pins ++ t.pins;
  long = simp length-append (omega (arith, s.long, t.long));
  leads = t.leads ∙ ap (λ w. run w t.pins) s.leads ∙ sym (run_join m s.pins t.pins);
  words =
      let here : heard (outs (run m s.pins) t.pins) ≡ vs = ap (λ w. heard (outs w t.pins)) (sym s.leads) ∙ t.words in
      ap heard (outs_join m s.pins t.pins)
      ∙ heard_append (outs m s.pins) (outs (run m s.pins) t.pins)
      ∙ ap (λ ws. ws ++ heard (outs (run m s.pins) t.pins)) s.words
      ∙ ap (λ ws. us ++ ws) here;
}

-- told otherwise
pub stretch_is : (m m' : Meaning) (n k : ℕ) (us vs : List ℕ) → Stretch m m' n us → n ≡ k → us ≡ vs → Stretch m m' k vs
stretch_is m m' n k us vs t e f = record { pins = t.pins; long = t.long ∙ e; leads = t.leads; words = t.words ∙ f }

pub went_none : (s : Sheet) (m : Meaning) (d : Ledger) → Rests s m d → Went s m m d d 0 [] m.cells
went_none s m d r = record { rests = r; later = omega arith; cells = refl; stretch = stretch_none m }

-- the ledger may change with no clock
pub went_noted : (s : Sheet) (m : Meaning) (d d' : Ledger) → Rests s m d' → d'.clock ≡ d.clock → Went s m m d d' 0 [] m.cells
went_noted s m d d' r e = record { rests = r; later = omega arith; cells = refl; stretch = stretch_none m }

-- k and ws are the sum and the words as the goal has them
pub went_then : {s : Sheet} {m m' m'' : Meaning} {d d' d'' : Ledger} {a b : ℕ} {us vs : List ℕ} {f g : ℕ → ℕ} (k : ℕ) (ws : List ℕ)
    → Went s m m' d d' a us f → Went s m' m'' d' d'' b vs g → a + b ≡ k → us ++ vs ≡ ws → Went s m m'' d d'' k ws g
went_then k ws x y e h = record {
  rests = y.rests;
  later = omega (arith, x.later, y.later);
  cells = y.cells;
  stretch = stretch_is _ _ _ _ _ _ (stretch_then _ _ _ _ _ _ _ x.stretch y.stretch) e h;
}

-- told otherwise: the ledger and the cells at the end, or the meaning at the end
pub went_is : {s : Sheet} {m m' : Meaning} {d d' : Ledger} {n : ℕ} {ws : List ℕ} {f : ℕ → ℕ} (d'' : Ledger) (g : ℕ → ℕ)
    → Went s m m' d d' n ws f → d' ≡ d'' → f ≡ g → Went s m m' d d'' n ws g
went_is {s = s} {m = m} {m' = m'} {d = d} {d' = d'} {n = n} {ws = ws} d'' g x e h =
    subst (λ z. Went s m m' d z n ws g) e (subst (λ z. Went s m m' d d' n ws z) h x)

pub went_means : {s : Sheet} {m x : Meaning} {d d' : Ledger} {n : ℕ} {ws : List ℕ} {f : ℕ → ℕ} (m' : Meaning) (g : ℕ → ℕ)
    → Went s m x d d' n ws f → m' ≡ x → f ≡ g → Went s m m' d d' n ws g
went_means {s = s} {m = m} {x = x} {d = d} {d' = d'} {n = n} {ws = ws} m' g w e h =
    subst (λ z. Went s m z d d' n ws g) (sym e) (subst (λ z. Went s m x d d' n ws z) h w)
