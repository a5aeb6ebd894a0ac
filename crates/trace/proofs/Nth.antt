-- In a well-formed body piece k gives the pins at clock k.
use Rattle.std.proofs.Common.{◌≡◌, ℕ, zero, suc, ◌+◌, ◌*◌, ◌/◌, ◌<◌, List, [], ◌∷◌, length, take, drop, Some, None, Ok, Err, Option, refl, arith}
use Rattle.std.specs.List.{slice_get}
use Rattle.std.proofs.lemmas.List.{length-take, length-drop, drop-drop}
use Rattle.std.proofs.lemmas.Bool.{ne_eqb}
use Rattle.rules.specs.declared.pins.Pins.{Pins}
use Rattle.trace.specs.Answer.{Reply}
use Rattle.trace.specs.Clock.{pins_of}
use Rattle.trace.specs.Body.{cut, piece, joined, read, clocks_of}

pub pins_short : (bs : List ℕ) → length bs < 21 → pins_of bs ≡ None
pins_short bs h = rw (ne_eqb (length bs) 21 (λ e. omega arith)) refl

pub piece_past : (bs : List ℕ) (k : ℕ) → length bs < 21 * k + 21 → pins_of (piece bs k) ≡ None
piece_past bs k h = pins_short (piece bs k) (simp (length-take, length-drop) (omega arith))

piece_next : (bs : List ℕ) (k : ℕ) → piece bs (suc k) ≡ piece (drop 21 bs) k
piece_next bs k =
    let e : 21 * suc k ≡ 21 + 21 * k = omega arith in
    rw (e, ← drop-drop (21 * k) 21 bs) refl

-- the first pins, and those behind them
pub parts : (n : ℕ) (o : Option Pins) (r : Reply (List Pins)) (ps : List Pins) → joined n o r ≡ Ok ps → (p : Pins) × (qs : List Pins) × (o ≡ Some p) × (r ≡ Ok qs) × (ps ≡ p ∷ qs)
parts n None r ps e = cc
parts n (Some p) (Ok qs) ps e = (p, qs, refl, refl, cc)
parts n (Some p) (Err x) ps e = cc

nth_of : (m n k : ℕ) (bs : List ℕ) (ps : List Pins) → m ≡ (length bs + 20) / 21 → read n (cut m bs) ≡ Ok ps → pins_of (piece bs k) ≡ slice_get ps k
nth_of zero n k bs ps l e =
    let none : [] ≡ ps = cc in
    rw (← none, piece_past bs k (omega arith)) refl
nth_of (suc m) n zero bs ps l e =
    let h = parts n (pins_of (take 21 bs)) (read (n + 1) (cut m (drop 21 bs))) ps e in
    rw h.4 h.2
nth_of (suc m) n (suc k) bs ps l e =
    let h = parts n (pins_of (take 21 bs)) (read (n + 1) (cut m (drop 21 bs))) ps e in
    let less : m ≡ (length (drop 21 bs) + 20) / 21 = simp length-drop (omega arith) in
    rw (h.4, piece_next bs k) (nth_of m (n + 1) k (drop 21 bs) h.1 less h.3)

pub clocks_nth : (bs : List ℕ) (k : ℕ) (ps : List Pins) → clocks_of bs ≡ Ok ps → pins_of (piece bs k) ≡ slice_get ps k
clocks_nth bs k ps e = nth_of ((length bs + 20) / 21) 2 k bs ps refl e
