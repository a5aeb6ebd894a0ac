-- An answer by the book, told without it.
use Rattle.std.proofs.Common.{◌≡◌, ℕ, ◌+◌, ◌-◌, ◌*◌, Bool, true, false, cond, ◌||◌, eqb, ltb, leb, List, length, Some, Option, Ok, Err, refl, ap, sym, ◌∙◌, arith, leb-false, ltb-true, ltb-false}
use Rattle.rules.specs.Meaning.{Meaning}
use Rattle.device.specs.declared.device.Device.{Ghosts}
use Rattle.book.specs.declared.refusal.Refusal.{Refusal}
use Rattle.book.specs.declared.refusal.Refusal.TheVariants.{Address, Length}
use Rattle.book.specs.Asks.{Ask, read, write, fill, wait}
use Rattle.book.specs.Book.{words_refusal}
use Rattle.driver.specs.Refused.{refusal, count_refusal}
use Rattle.driver.specs.Told.{RequestsTold}

-- below the last address both tests of a length are one
one_test : (x a n : ℕ) → leb x a ≡ false → ltb x (a + n) ≡ ltb (x - a) n
one_test x a n p = go (ltb x (a + n)) (ltb (x - a) n) refl refl
  where
    go : (u v : Bool) → ltb x (a + n) ≡ u → ltb (x - a) n ≡ v → u ≡ v
    go true true q r = refl
    go false false q r = refl
    go true false q r = absurd (omega (arith, leb-false x a p, ltb-true x (a + n) q, ltb-false (x - a) n r))
    go false true q r = absurd (omega (arith, leb-false x a p, ltb-false x (a + n) q, ltb-true (x - a) n r))

pub refusal_by_book : (rows clock a n : ℕ) → words_refusal rows clock a n ≡ refusal rows clock a n
refusal_by_book rows clock a n = go (leb (rows * 512) a) refl
  where
    go : (x : Bool) → leb (rows * 512) a ≡ x
        → ◌≡◌ {A = Option Refusal} (cond x (Some Address) (cond (eqb n 0 || (ltb 256 n || ltb (rows * 512) (a + n))) (Some Length) (count_refusal clock)))
        (cond x (Some Address) (cond (eqb n 0 || (ltb 256 n || ltb (rows * 512 - a) n)) (Some Length) (count_refusal clock)))
    go true p = refl
    go false p = ap (λ t. cond (eqb n 0 || (ltb 256 n || t)) (Some Length) (count_refusal clock)) (one_test (rows * 512) a n p)

-- the words of a read
abbrev words_of : Ask → List ℕ → List ℕ
words_of (read x ws) other = ws
words_of (write p x ws) other = other
words_of (fill p x n) other = other
words_of (wait n) other = other

by_book : (m : Meaning) (a : ℕ) (old : List ℕ) → words_refusal m.state.sheet.rows m.state.clock a (length old) ≡ refusal m.state.sheet.rows m.state.clock a (length old)
by_book m a old = refusal_by_book m.state.sheet.rows m.state.clock a (length old)

module _ {D : Type 0} {ghosts : Ghosts D} where
  pub told : RequestsTold ghosts
  told = record {
    read = λ s s' a old new. elim [
      | Ok n ↦ λ e x. record {
        accepted = sym (by_book (ghosts.meaning s.channel.device) a old) ∙ e.due;
        served = record { stretch = e.stretch; cells = ap (λ b. b.words) e.book; clock = ap (λ b. b.clock) e.book; sheet = e.sheet; sound = e.sound };
        words = ap (λ q. words_of q new) e.left;
        few = e.timed;
      }
      | Err f ↦ λ e x. (sym (by_book (ghosts.meaning s.channel.device) a old) ∙ e.due, ap (λ q. words_of q new) e.left, x)
    ];
    moves = λ s s' a n. elim [ Ok k ↦ λ e x. e | Err f ↦ λ e x. ap (λ t. t.channel.ledger) x ];
    wait = λ s s' n. elim [
      | Ok k ↦ λ e x. record {
        accepted = e.due;
        served = record { stretch = e.stretch; cells = ap (λ b. b.words) e.book; clock = ap (λ b. b.clock) e.book; sheet = e.sheet; sound = e.sound };
        enough = e.timed.0;
        few = e.timed.1;
      }
      | Err f ↦ λ e x. (e.due, x)
    ];
  }
