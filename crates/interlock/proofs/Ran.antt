-- Two devices that are given the same clocks, part of the way.
use Rattle.std.proofs.Common.{◌≡◌, ℕ, ◌+◌, ◌<◌, ◌≤◌, Bool, true, false, ◌&&◌, T, eqb, List, [], ◌∷◌, length, get_or, drop, sym, refl, ◌∙◌, subst, eqb→eq, eq-eqb}
use mathlib.Core.List.{head-eq_of_cons-eq, tail-eq_of_cons-eq}
use Rattle.std.proofs.lemmas.List.{drop_more, drop_all}
use Rattle.rules.specs.declared.pins.Pins.{Pins}
use Rattle.rules.specs.Meaning.{Meaning, step, out, switch_on, run, outs}
use Rattle.interlock.specs.Alike.{Alike}
use Rattle.interlock.specs.Agree.{Matched}
use Rattle.interlock.proofs.Agreed.{devices_agree}

-- from m₀ and n₀, of the clocks ps those in qs are left, at m and n; `same` is whether all answers so far agreed
pub record Ran (m₀ n₀ m n : Meaning) (ps qs : List Pins) (same : Bool) : Type 0 where
  pub first : run m₀ ps ≡ run m qs
  pub second : run n₀ ps ≡ run n qs
  pub holds : T same → outs m qs ≡ outs n qs → outs m₀ ps ≡ outs n₀ ps
  pub tells : outs m₀ ps ≡ outs n₀ ps → T same × (outs m qs ≡ outs n qs)

parts : (a b : Bool) → T (a && b) → T a × T b
parts true b t = (tt, t)
parts false b t = absurd t

join : (a b : Bool) → T a → T b → T (a && b)
join true b t u = u
join false b t u = absurd t

eqb_self : (x : ℕ) → T (eqb x x)
eqb_self x = subst T (sym (eq-eqb x x refl)) tt

-- whether two answers are the same
abbrev pub same_pair : ℕ × ℕ → ℕ × ℕ → Bool
same_pair x y = eqb x.0 y.0 && eqb x.1 y.1

pair_holds : (x y : ℕ × ℕ) → T (same_pair x y) → x ≡ y
pair_holds x y t = let h = parts (eqb x.0 y.0) (eqb x.1 y.1) t in λ i. (eqb→eq _ _ h.0 i, eqb→eq _ _ h.1 i)

pair_tells : (x y : ℕ × ℕ) → x ≡ y → T (same_pair x y)
pair_tells x y e = subst (λ (z : ℕ × ℕ). T (same_pair x z)) e (join _ (eqb x.1 x.1) (eqb_self x.0) (eqb_self x.1))

-- one clock more
ran_step : (m₀ n₀ m n : Meaning) (ps qs : List Pins) (p : Pins) (same : Bool) → Ran m₀ n₀ m n ps (p ∷ qs) same
    → Ran m₀ n₀ (step m p) (step n p) ps qs (same && same_pair (out m p) (out n p))
ran_step m₀ n₀ m n ps qs p same h = record {
  first = h.first;
  second = h.second;
  holds = λ t e. let k = parts same (same_pair (out m p) (out n p)) t in h.holds k.0 (λ i. pair_holds (out m p) (out n p) k.1 i ∷ e i);
  tells = λ e.
      let k = h.tells e in
      (join same (same_pair (out m p) (out n p)) k.0 (pair_tells (out m p) (out n p) (head-eq_of_cons-eq k.1)), tail-eq_of_cons-eq k.1);
}

pub ran_more : (m₀ n₀ m n m' n' : Meaning) (ps : List Pins) (i : ℕ) (d : Pins) (same r : Bool) (x y : ℕ × ℕ) → i < length ps
    → m' ≡ step m (get_or ps i d) → n' ≡ step n (get_or ps i d) → x ≡ out m (get_or ps i d) → y ≡ out n (get_or ps i d) → r ≡ same_pair x y
    → Ran m₀ n₀ m n ps (drop i ps) same → Ran m₀ n₀ m' n' ps (drop (i + 1) ps) (same && r)
ran_more m₀ n₀ m n m' n' ps i d same r x y l em en ex ey er h =
    let p : Pins = get_or ps i d in
    let k = ran_step m₀ n₀ m n ps (drop (i + 1) ps) p same (subst (λ (qs : List Pins). Ran m₀ n₀ m n ps qs same) (drop_more ps i d l) h) in
    let is : r ≡ same_pair (out m p) (out n p) = er ∙ (λ j. same_pair (ex j) (ey j)) in
    subst (λ (z : Meaning × Meaning × Bool). Ran m₀ n₀ z.0 z.1 ps (drop (i + 1) ps) (same && z.2)) (λ j. (sym em j, sym en j, sym is j)) k

-- at the end, where both began by switch-on
pub ran_all : (a b m₀ n₀ m n : Meaning) (ps : List Pins) (i : ℕ) (same : Bool) → m₀ ≡ switch_on a → n₀ ≡ switch_on b → length ps ≤ i
    → Ran m₀ n₀ m n ps (drop i ps) same → Ran (switch_on a) (switch_on b) m n ps [] same
ran_all a b m₀ n₀ m n ps i same em en l h =
    subst (λ (z : Meaning × Meaning × List Pins). Ran z.0 z.1 m n ps z.2 same) (λ j. (em j, en j, drop_all i ps l j)) h

pub ran_agree : (a b m n : Meaning) (ps : List Pins) (same : Bool) → Ran (switch_on a) (switch_on b) m n ps [] same → Matched a b → T same × Alike m n
ran_agree a b m n ps same h k =
    let w = devices_agree a b ps k in
    ((h.tells w.answers).0, subst (λ (z : Meaning × Meaning). Alike z.0 z.1) (λ j. (h.first j, h.second j)) w.alike)
