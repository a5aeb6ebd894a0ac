-- Words and blocks in a row, as an interval of addresses.
use Rattle.std.proofs.Common.{◌≡◌, ℕ, zero, suc, ◌+◌, ◌-◌, ◌*◌, ◌/◌, ◌%◌, ◌^◌, ◌<◌, ◌≤◌, Bool, true, false, cond, ◌&&◌, eqb, ltb, leb, List, [], ◌∷◌, ◌++◌, length, get_or, sym, refl, ap, ◌∙◌, add-zero, zero-add, arith, ltb-false, ltb-true, le-ltb, lt-ltb, eq-eqb, ne_eqb, eqb-true, le-leb}
use lib.Bits.{bit_and, and_zero_l, and_zero_r}
use borrow.Author.Tests.{lt-leb, eqb-false}
use Rattle.sheet.specs.declared.sheet.Sheet.{Sheet}
use Rattle.rules.specs.declared.pins.BankName.{BankName}
use Rattle.rules.specs.declared.pins.Access.TheVariants.{Block}
use Rattle.rules.specs.declared.pins.Command.TheVariants.{Column}
use Rattle.rules.specs.Words.{put, wide, chosen}
use Rattle.rules.specs.Cells.{written}
use Rattle.rules.proofs.Below.{every, every_one}
use Rattle.schedule.specs.declared.ledger.Ledger.{Ledger}
use Rattle.schedule.specs.After.{address, stored}
use Rattle.schedule.specs.Stretch.{span}
use Rattle.schedule.specs.Writing.{all_written}
use Rattle.schedule.specs.Spread.{among, spread, columns, Spreads}
use Rattle.schedule.proofs.Small.{whole}

among_in : (x n a : ℕ) → x ≤ a → a < x + n → among x n a ≡ true
among_in x n a h q = rw (le-leb x a h) (lt-ltb a (x + n) q)

among_before : (x n a : ℕ) → a < x → among x n a ≡ false
among_before x n a h = rw (lt-leb x a h) refl

among_after : (x n a : ℕ) → x + n ≤ a → among x n a ≡ false
among_after x n a h = rw (le-leb x a (omega arith)) (le-ltb a (x + n) h)

-- a number is before, at or after another
data Where (a x : ℕ) : Type 0 where
  before : a < x → Where a x
  here : a ≡ x → Where a x
  behind : x < a → Where a x

where_is : (a x : ℕ) → Where a x
where_is a x = go (eqb a x) (ltb a x) refl refl
  where
    go : (z y : Bool) → eqb a x ≡ z → ltb a x ≡ y → Where a x
    go true y e f = here (eqb-true a x e)
    go false true e f = before (ltb-true a x f)
    go false false e f = let ne : a ≡ x → ⊥ = eqb-false a x e in let le : x ≤ a = ltb-false a x f in behind (omega arith)

-- no words
pub spread_none : (f : ℕ → ℕ) (x mask : ℕ) (new : ℕ → ℕ) (a : ℕ) → spread f x 0 mask new a ≡ f a
spread_none f x mask new a = go (where_is a x)
  where
    go : Where a x → spread f x 0 mask new a ≡ f a
    go (before h) = rw (among_before x 0 a h) refl
    go (here h) = rw (among_after x 0 a (omega arith)) refl
    go (behind h) = rw (among_after x 0 a (omega arith)) refl

-- words written one by one
pub written_is : (ws : List ℕ) (f : ℕ → ℕ) (x mask a : ℕ) → all_written x mask ws f a ≡ spread f x (length ws) mask (λ j. get_or ws j 0) a
written_is [] f x mask a = sym (spread_none f x mask (λ j. get_or [] j 0) a)
written_is (w ∷ ws) f x mask a = written_is ws (written x mask w f) (suc x) mask a ∙ go (where_is a x)
  where
    go : Where a x → spread (written x mask w f) (suc x) (length ws) mask (λ j. get_or ws j 0) a ≡ spread f x (suc (length ws)) mask (λ j. get_or (w ∷ ws) j 0) a
    go (before h) = rw (among_before (suc x) (length ws) a (omega arith), among_before x (suc (length ws)) a h, ne_eqb a x (omega arith)) refl
    go (here h) =
        let e : a - x ≡ 0 = omega arith in
        rw (among_before (suc x) (length ws) a (omega arith), among_in x (suc (length ws)) a (omega arith) (omega arith), eq-eqb a x h, e) refl
    go (behind h) =
        let e : a - x ≡ suc (a - suc x) = omega arith in
        let l₁ : leb x a ≡ true = le-leb x a (omega arith) in
        let l₂ : leb (suc x) a ≡ true = le-leb (suc x) a (omega arith) in
        let p : suc x + length ws ≡ x + suc (length ws) = omega arith in
        rw (ne_eqb a x (omega arith), e, l₁, l₂, p) refl

pub written_append : (us vs : List ℕ) (f : ℕ → ℕ) (x mask : ℕ) → all_written x mask (us ++ vs) f ≡ all_written (x + length us) mask vs (all_written x mask us f)
written_append [] vs f x mask = ap (λ y. all_written y mask vs f) (sym (add-zero x))
written_append (u ∷ us) vs f x mask =
    let e : suc x + length us ≡ x + suc (length us) = omega arith in
    written_append us vs (written x mask u f) (suc x) mask ∙ ap (λ y. all_written y mask vs (all_written (suc x) mask us (written x mask u f))) e

-- the four places of an address beside two intervals, one behind the other
data Beside (a x n k : ℕ) : Type 0 where
  under : a < x → Beside a x n k
  first : x ≤ a → a < x + n → Beside a x n k
  second : x + n ≤ a → a < x + n + k → Beside a x n k
  over : x + n + k ≤ a → Beside a x n k

beside : (a x n k : ℕ) → Beside a x n k
beside a x n k = go (ltb a x) (ltb a (x + n)) (ltb a (x + n + k)) refl refl refl
  where
    go : (p q r : Bool) → ltb a x ≡ p → ltb a (x + n) ≡ q → ltb a (x + n + k) ≡ r → Beside a x n k
    go true q r e f g = under (ltb-true a x e)
    go false true r e f g = first (ltb-false a x e) (ltb-true a (x + n) f)
    go false false true e f g = second (ltb-false a (x + n) f) (ltb-true a (x + n + k) g)
    go false false false e f g = over (ltb-false a (x + n + k) g)

-- more words behind others
pub spread_more : (f : ℕ → ℕ) (x n k mask : ℕ) (new : ℕ → ℕ) (a : ℕ)
    → spread (spread f x n mask new) (x + n) k mask (λ j. new (n + j)) a ≡ spread f x (n + k) mask new a
spread_more f x n k mask new a = go (beside a x n k)
  where
    go : Beside a x n k → spread (spread f x n mask new) (x + n) k mask (λ j. new (n + j)) a ≡ spread f x (n + k) mask new a
    go (under h) = rw (among_before (x + n) k a (omega arith), among_before x n a h, among_before x (n + k) a h) refl
    go (first h q) = rw (among_before (x + n) k a q, among_in x n a h q, among_in x (n + k) a h (omega arith)) refl
    go (second h q) =
        let e : n + (a - (x + n)) ≡ a - x = omega arith in
        rw (among_in (x + n) k a h q, among_after x n a h, among_in x (n + k) a (omega arith) (omega arith), e) refl
    go (over h) = rw (among_after (x + n) k a h, among_after x n a (omega arith), among_after x (n + k) a (omega arith)) refl

pub span_append : (f : ℕ → ℕ) (a n k : ℕ) → span f a (n + k) ≡ span f a n ++ span f (a + n) k
span_append f a zero k = (λ i. span f (sym (add-zero a) i) (zero-add k i))
span_append f a (suc n) k =
    let e : suc n + k ≡ suc (n + k) = omega arith in
    let u : suc a + n ≡ a + suc n = omega arith in
    ap (span f a) e ∙ ap {B = List ℕ} (λ ws. f a ∷ ws) (span_append f (suc a) n k ∙ ap (λ y. span f (suc a) n ++ span f y k) u)

pub span_length : (f : ℕ → ℕ) (a n : ℕ) → length (span f a n) ≡ n
span_length f a zero = refl
span_length f a (suc n) = ap suc (span_length f (suc a) n)

pub span_word : (f : ℕ → ℕ) (a n i : ℕ) → i < n → get_or (span f a n) i 0 ≡ f (a + i)
span_word f a zero i h = absurd (omega arith)
span_word f a (suc n) zero h = ap f (sym (add-zero a))
span_word f a (suc n) (suc i) h =
    let e : suc a + i ≡ a + suc i = omega arith in
    span_word f (suc a) n i (omega arith) ∙ ap f e

choice_test : ℕ → Bool
choice_test n = eqb (wide (chosen (columns (n / 72) (n / 8 % 9)) (n % 8))) (cond (leb (n / 72) (n % 8) && ltb (n % 8) (n / 8 % 9)) 0xffffffff 0)

choice_tried : every choice_test 648 ≡ true
unfolding choice_test
choice_tried = refl

choice : (lo hi k : ℕ) → lo ≤ 8 → hi ≤ 8 → k < 8 → wide (chosen (columns lo hi) k) ≡ cond (leb lo k && ltb k hi) 0xffffffff 0
unfolding choice_test
choice lo hi k h q r =
    let n : ℕ = lo * 72 + hi * 8 + k in
    let e = every_one choice_test 648 (lo * 72 + hi * 8 + k) choice_tried (omega arith) in
    let e₁ : (lo * 72 + hi * 8 + k) / 72 ≡ lo = omega arith in
    let e₂ : (lo * 72 + hi * 8 + k) / 8 % 9 ≡ hi = omega arith in
    let e₃ : (lo * 72 + hi * 8 + k) % 8 ≡ k = omega arith in
    eqb-true _ _ (rw (e₁, e₂, e₃) at e)

put_none : (new old : ℕ) → put 0 new old ≡ old
put_none new old = omega (arith, and_zero_r new, and_zero_r old)

-- a block write of the columns from lo up to hi fills just those cells
pub block_fills : (s : Sheet) (d : Ledger) (b : BankName) (a8 : Bool) (c lo hi : ℕ) (f : ℕ → ℕ) (x : ℕ) → c % 8 ≡ 0 → lo ≤ hi → hi ≤ 8 → d.mask < 2 ^ 32
    → stored s d (columns lo hi) (Column Block b a8 c) f x ≡ spread f (address s d b c + lo) (hi - lo) d.mask (λ _. d.colour) x
block_fills s d b a8 c lo hi f x e h q w = go (where_is (x / 8) (address s d b c / 8)) (where_is (x % 8) lo) (where_is (x % 8) hi)
  where
    even : address s d b c % 8 ≡ 0
    even = omega arith

    out_of : (z : Bool) → (leb lo (x % 8) && ltb (x % 8) hi) ≡ z → eqb (x / 8) (address s d b c / 8) ≡ true
        → stored s d (columns lo hi) (Column Block b a8 c) f x ≡ cond z (put d.mask d.colour (f x)) (f x)
    out_of z u v = rw (v, choice lo hi (x % 8) (omega arith) q (omega arith), u) (at z)
      where
        at : (z : Bool) → put (bit_and (cond z 0xffffffff 0) d.mask) d.colour (f x) ≡ cond z (put d.mask d.colour (f x)) (f x)
        at true = ap (λ y. put y d.colour (f x)) (whole d.mask w)
        at false = ap (λ y. put y d.colour (f x)) (and_zero_l d.mask) ∙ put_none d.colour (f x)

    go : Where (x / 8) (address s d b c / 8) → Where (x % 8) lo → Where (x % 8) hi
        → stored s d (columns lo hi) (Column Block b a8 c) f x ≡ spread f (address s d b c + lo) (hi - lo) d.mask (λ _. d.colour) x
    go (before u) l r = rw (ne_eqb (x / 8) (address s d b c / 8) (omega arith), among_before (address s d b c + lo) (hi - lo) x (omega arith)) refl
    go (behind u) l r = rw (ne_eqb (x / 8) (address s d b c / 8) (omega arith), among_after (address s d b c + lo) (hi - lo) x (omega (arith, even))) refl
    go (here u) (before l) r = out_of false (rw (lt-leb lo (x % 8) l) refl) (eq-eqb _ _ u) ∙ rw (among_before (address s d b c + lo) (hi - lo) x (omega (arith, even))) refl
    go (here u) (here l) (before r) = out_of true (rw (le-leb lo (x % 8) (omega arith)) (lt-ltb (x % 8) hi r)) (eq-eqb _ _ u) ∙ rw (among_in (address s d b c + lo) (hi - lo) x (omega (arith, even)) (omega (arith, even))) refl
    go (here u) (here l) (here r) = out_of false (rw (le-leb lo (x % 8) (omega arith)) (le-ltb (x % 8) hi (omega arith))) (eq-eqb _ _ u) ∙ rw (among_after (address s d b c + lo) (hi - lo) x (omega (arith, even))) refl
    go (here u) (here l) (behind r) = absurd (omega arith)
    go (here u) (behind l) (before r) = out_of true (rw (le-leb lo (x % 8) (omega arith)) (lt-ltb (x % 8) hi r)) (eq-eqb _ _ u) ∙ rw (among_in (address s d b c + lo) (hi - lo) x (omega (arith, even)) (omega (arith, even))) refl
    go (here u) (behind l) (here r) = out_of false (rw (le-leb lo (x % 8) (omega arith)) (le-ltb (x % 8) hi (omega arith))) (eq-eqb _ _ u) ∙ rw (among_after (address s d b c + lo) (hi - lo) x (omega (arith, even))) refl
    go (here u) (behind l) (behind r) = out_of false (rw (le-leb lo (x % 8) (omega arith)) (le-ltb (x % 8) hi (omega arith))) (eq-eqb _ _ u) ∙ rw (among_after (address s d b c + lo) (hi - lo) x (omega (arith, even))) refl

pub spreads : Spreads
spreads = record {
  none = λ f x mask new i a. spread_none f x mask new a i;
  more = λ f x n k mask new i a. spread_more f x n k mask new a i;
  written = λ ws f x mask i a. written_is ws f x mask a i;
  in_two = written_append;
  block = λ s d b a8 c lo hi f e h q w i x. block_fills s d b a8 c lo hi f x e h q w i;
  read_long = span_length;
  read_word = span_word;
  read_in_two = span_append;
}
