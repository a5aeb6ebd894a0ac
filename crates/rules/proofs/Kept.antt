-- What a run leaves of the cells.
use Rattle.std.proofs.Common.{◌≡◌, ℕ, ◌/◌, ◌%◌, Bool, true, false, cond, ◌&&◌, eqb, List, [], ◌∷◌, None, sym, refl, ap, ◌∙◌}
use lib.Bits.{bit_and}
use Rattle.std.proofs.lemmas.Bool.{or_parts}
use Rattle.rules.specs.declared.pins.Pins.{Pins}
use Rattle.rules.specs.declared.state.Work.{Work}
use Rattle.rules.specs.declared.state.Work.TheVariants.{Nothing, Take, Store, Paint}
use Rattle.rules.specs.Words.{bit, put, wide, chosen}
use Rattle.rules.specs.Pins.{command}
use Rattle.rules.specs.Faults.{found}
use Rattle.rules.specs.Cells.{work_at, done}
use Rattle.rules.specs.Meaning.{Meaning, if_moved, moves, step, run}
use Rattle.rules.specs.Laws.{touches, reaches, some_work, touched, reached}
use Rattle.rules.proofs.Ways.{way, way_held, way_failed, way_moved, step_held, step_failed, step_moved}
use Rattle.rules.proofs.Bitwise.{bit_put}

pub done_words : (w : Work) (f : ℕ → ℕ) (x : ℕ) → touches w x ≡ false → done w f x ≡ f x
done_words Nothing f x e = refl
done_words (Take a) f x e = refl
done_words (Store a mask word) f x e = ap (λ b. cond b (put mask word (f x)) (f x)) e
done_words (Paint a columns mask colour) f x e =
    ap (λ b. cond b (put (bit_and (wide (chosen columns (x % 8))) mask) colour (f x)) (f x)) e

put_kept : (here : Bool) (mask new old i : ℕ) → (here && eqb (bit mask i) 1) ≡ false → bit (cond here (put mask new old) old) i ≡ bit old i
put_kept true mask new old i e = bit_put mask new old i ∙ ap (λ b. cond b (bit new i) (bit old i)) e
put_kept false mask new old i e = refl

pub done_bits : (w : Work) (f : ℕ → ℕ) (x i : ℕ) → reaches w x i ≡ false → bit (done w f x) i ≡ bit (f x) i
done_bits Nothing f x i e = refl
done_bits (Take a) f x i e = refl
done_bits (Store a mask word) f x i e = put_kept (eqb x a) mask word (f x) i e
done_bits (Paint a columns mask colour) f x i e =
    put_kept (eqb (x / 8) (a / 8)) (bit_and (wide (chosen columns (x % 8))) mask) colour (f x) i e

-- what is seen of the cells stays over a run none of whose work passes a test, if it stays over such work
module _ {X : Type 0} (see : (ℕ → ℕ) → X) (t : Work → Bool) (stays : (w : Work) (f : ℕ → ℕ) → t w ≡ false → see (done w f) ≡ see f) where
  pub step_unseen : (m : Meaning) (p : Pins) → moves m.state p (t (work_at m.state p)) false ≡ false → see (step m p).cells ≡ see m.cells
  step_unseen m p e = elim (way m p) [
    | way_held h ↦ ap (λ n. see n.cells) (step_held m p h)
    | way_failed k h f ↦ ap (λ n. see n.cells) (step_failed m p k h f)
    | way_moved h f ↦
        let w : Work = work_at m.state p in
        let is : moves m.state p (t w) false ≡ t w =
        ap (λ g. if_moved g (found m.state (command p)) (t w) false) h ∙ ap (λ r. if_moved None r (t w) false) f in
        ap (λ n. see n.cells) (step_moved m p h f) ∙ stays w m.cells (sym is ∙ e)
  ]

  pub run_unseen : (m : Meaning) (ps : List Pins) → some_work t m ps ≡ false → see (run m ps).cells ≡ see m.cells
  run_unseen m [] e = refl
  run_unseen m (p ∷ ps) e =
      let h = or_parts (moves m.state p (t (work_at m.state p)) false) (some_work t (step m p) ps) e in
      run_unseen (step m p) ps h.1 ∙ step_unseen m p h.0

pub words_kept : (m : Meaning) (ps : List Pins) (x : ℕ) → touched m ps x ≡ false → (run m ps).cells x ≡ m.cells x
words_kept m ps x = run_unseen (λ f. f x) (λ w. touches w x) (λ w f. done_words w f x) m ps

pub bits_kept : (m : Meaning) (ps : List Pins) (x i : ℕ) → reached m ps x i ≡ false → bit ((run m ps).cells x) i ≡ bit (m.cells x) i
bits_kept m ps x i = run_unseen (λ f. bit (f x) i) (λ w. reaches w x i) (λ w f. done_bits w f x i) m ps
