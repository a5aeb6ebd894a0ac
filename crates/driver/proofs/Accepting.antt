-- What a request that is not turned away keeps to.
use Rattle.std.proofs.Common.{◌≡◌, ℕ, ◌+◌, ◌-◌, ◌*◌, ◌^◌, ◌≤◌, Bool, true, false, cond, ◌||◌, eqb, ltb, leb, Some, None, Option, refl, ap, arith, ltb-false}
use borrow.Author.Tests.{eqb-false}
use Rattle.std.specs.Option.{is_some}
use Rattle.book.specs.declared.refusal.Refusal.{Refusal}
use Rattle.book.specs.declared.refusal.Refusal.TheVariants.{Address, Length, Count}
use Rattle.book.specs.Book.{words_refusal, spent}

never : {X : Type 0} (r : Refusal) → Some r ≡ None → X
never r e = let z : ◌≡◌ {A = ℕ} 1 0 = ap (λ o. cond (is_some o) 1 0) e in absurd (omega arith)

pub record Allowed (rows clock a n : ℕ) : Type 0 where
  pub some : 1 ≤ n
  pub most : n ≤ 256
  pub inside : a + n ≤ rows * 512
  pub count : clock + 2000000 ≤ 2 ^ 62

pub allowed : (rows clock a n : ℕ) → words_refusal rows clock a n ≡ None → Allowed rows clock a n
allowed rows clock a n e = go (leb (rows * 512) a) (eqb n 0) (ltb 256 n) (ltb (rows * 512) (a + n)) (spent clock) refl refl refl refl e
  where
    go : (x y z u v : Bool) → eqb n 0 ≡ y → ltb 256 n ≡ z → ltb (rows * 512) (a + n) ≡ u → spent clock ≡ v
        → ◌≡◌ {A = Option Refusal} (cond x (Some Address) (cond (y || (z || u)) (Some Length) (cond v (Some Count) None))) None → Allowed rows clock a n
    go true y z u v q r s t h = never Address h
    go false true z u v q r s t h = never Length h
    go false false true u v q r s t h = never Length h
    go false false false true v q r s t h = never Length h
    go false false false false true q r s t h = never Count h
    go false false false false false q r s t h = record {
      some = omega (arith, eqb-false n 0 q);
      most = ltb-false 256 n r;
      inside = ltb-false (rows * 512) (a + n) s;
      count = omega (arith, ltb-false (2 ^ 62 - clock) 2000000 t);
    }
