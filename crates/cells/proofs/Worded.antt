-- Words in the order of their addresses.
use Rattle.std.proofs.Common.{◌≡◌, ℕ, suc, ◌+◌, ◌-◌, ◌*◌, ◌/◌, ◌%◌, ◌^◌, ◌<◌, ◌≤◌, true, false, cond, ◌&&◌, eqb, ltb, ◌≢◌, List, ◌++◌, length, get_or, take, set, sym, ap, ◌∙◌, ⊎_elim, mod-eq_of_lt, arith, length-take, length-drop}
use mathlib.Core.Path.{fun_ext}
use lib.Bits.{bit_and}
use Rattle.std.proofs.lemmas.List.{get_or-set_same, get_or-set_other, set-append_left, set-append_right, get_or_append_left, get_or-append_right}
use borrow.Rule.Slice.PartMut.{put_mid, mid_of, post_of, same_len_mid}
use Rattle.std.proofs.lemmas.Bool.Decides.{nat_tests, eqb_tells, leb_tells}
use Rattle.rules.specs.Words.{put, wide, chosen}
use Rattle.rules.specs.Cells.{painted}
use Rattle.cells.specs.Words.{worded}
use Rattle.cells.proofs.Bits.{block_past}

-- the memory alone, without the last address
abbrev pub held : List ℕ → ℕ → ℕ
held cells a = get_or cells a 0 % 2 ^ 32

-- the first k columns of the block that t lies in
abbrev pub partly : ℕ → ℕ → ℕ → ℕ → ℕ → (ℕ → ℕ) → ℕ → ℕ
partly t columns mask colour k cells a =
    cond (eqb (a / 8) (t / 8) && ltb (a % 8) k) (put (bit_and (wide (chosen columns (a % 8))) mask) colour (cells a)) (cells a)

next : (a t k : ℕ) → k < 8 → a ≢ t / 8 * 8 + k → (eqb (a / 8) (t / 8) && ltb (a % 8) k) ≡ (eqb (a / 8) (t / 8) && ltb (a % 8) (k + 1))
next a t k h ne = grind (arith, nat_tests)

here : (a t k : ℕ) → k < 8 → a ≡ t / 8 * 8 + k → ((eqb (a / 8) (t / 8) && ltb (a % 8) k) ≡ false) × ((eqb (a / 8) (t / 8) && ltb (a % 8) (k + 1)) ≡ true) × (a % 8 ≡ k)
here a t k h e = (grind (arith, nat_tests), grind (arith, nat_tests), omega arith)

pub partly_more : (t columns mask colour k v : ℕ) (cells : ℕ → ℕ) (ys : List ℕ) → k < 8 → t / 8 * 8 + k < length ys
    → ((a : ℕ) → held ys a ≡ partly t columns mask colour k cells a)
    → v < 2 ^ 32 → v ≡ put (bit_and (wide (chosen columns k)) mask) colour (held ys (t / 8 * 8 + k))
    → (a : ℕ) → held (set ys (t / 8 * 8 + k) v) a ≡ partly t columns mask colour (k + 1) cells a
partly_more t columns mask colour k v cells ys hk hl inv small e a =
    ⊎_elim
    (λ s.
    let w = here a t k hk s.1 in
    let old : held ys a ≡ cells a = inv a ∙ rw w.0 in
    rw w.1
    (ap (held (set ys (t / 8 * 8 + k) v)) s.1 ∙
    ap (λ (x : ℕ). x % 2 ^ 32) (get_or-set_same ys (t / 8 * 8 + k) v 0 hl) ∙ mod-eq_of_lt small ∙
    e ∙ rw (← s.1, w.2, old)))
    (λ o. ap (λ (x : ℕ). x % 2 ^ 32) (get_or-set_other ys (t / 8 * 8 + k) a v 0 o.1) ∙ inv a ∙ rw (next a t k hk o.1))
    (eqb_tells a (t / 8 * 8 + k))

-- a write in the n words from the b-th on
module _ (b n j : ℕ) (xs ys : List ℕ) (hb : b ≤ length xs) (hj : j < length ys) where
  low : length (take b xs) ≡ b
  low = rw (length-take b xs) (omega arith)

  put_mid-set : (v : ℕ) → put_mid b n xs (set ys j v) ≡ set (put_mid b n xs ys) (b + j) v
  put_mid-set v =
      let e : b + j - b ≡ j = omega arith in
      sym (set-append_right (take b xs) (ys ++ post_of b n xs) b (b + j) v low (omega arith)
      ∙ ap (λ (k : ℕ). take b xs ++ set (ys ++ post_of b n xs) k v) e
      ∙ ap (λ (zs : List ℕ). take b xs ++ zs) (set-append_left ys (post_of b n xs) j v hj))

  get_or-put_mid : get_or (put_mid b n xs ys) (b + j) 0 ≡ get_or ys j 0
  get_or-put_mid =
      let e : b + j - b ≡ j = omega arith in
      get_or-append_right (take b xs) (ys ++ post_of b n xs) b (b + j) 0 low (omega arith)
      ∙ ap (λ (k : ℕ). get_or (ys ++ post_of b n xs) k 0) e
      ∙ get_or_append_left ys (post_of b n xs) 0 j hj

-- eight words are lent
pub eight : (b : ℕ) (xs : List ℕ) → b + 8 ≤ length xs → length (mid_of b (b + 8 - b) xs) ≡ 8
eight b xs h = simp (length-take, length-drop) (omega arith)

pub partly_put : (t columns mask colour k v n : ℕ) (xs ys : List ℕ) → k < 8 → k < length ys → t / 8 * 8 + 8 ≤ length xs
    → length ys ≡ length (mid_of (t / 8 * 8) n xs)
    → ((a : ℕ) → held (put_mid (t / 8 * 8) n xs ys) a ≡ partly t columns mask colour k (held xs) a)
    → v < 2 ^ 32 → v ≡ put (bit_and (wide (chosen columns k)) mask) colour (get_or ys k 0 % 2 ^ 32)
    → (a : ℕ) → held (put_mid (t / 8 * 8) n xs (set ys k v)) a ≡ partly t columns mask colour (k + 1) (held xs) a
partly_put t columns mask colour k v n xs ys hk hj hx long inv small e a =
    let hb : t / 8 * 8 ≤ length xs = omega arith in
    rw (put_mid-set (t / 8 * 8) n k xs ys hb hj v)
    (partly_more t columns mask colour k v (held xs) (put_mid (t / 8 * 8) n xs ys) hk (omega (arith, same_len_mid (t / 8 * 8) n xs ys long)) inv small
    (e ∙ ap (λ (x : ℕ). put (bit_and (wide (chosen columns k)) mask) colour (x % 2 ^ 32)) (sym (get_or-put_mid (t / 8 * 8) n k xs ys hb hj))) a)

all_eight : (a t k : ℕ) → 8 ≤ k → (eqb (a / 8) (t / 8) && ltb (a % 8) k) ≡ eqb (a / 8) (t / 8)
all_eight a t k h = grind (arith, nat_tests)

pub partly_all : (t columns mask colour k : ℕ) (cells : ℕ → ℕ) → 8 ≤ k → (a : ℕ) → partly t columns mask colour k cells a ≡ painted t columns mask colour cells a
partly_all t columns mask colour k cells h a = rw (all_eight a t k h)

-- the same up to the last address: what changes the words below it, at addresses that `test` names
worded_by : (rows : ℕ) (xs ys : List ℕ) (f : (ℕ → ℕ) → ℕ → ℕ) → ((g : ℕ → ℕ) (a : ℕ) → 512 * rows ≤ a → f g a ≡ g a)
    → ((g h : ℕ → ℕ) (a : ℕ) → g a ≡ h a → f g a ≡ f h a)
    → ((a : ℕ) → held ys a ≡ f (held xs) a) → worded rows ys ≡ f (worded rows xs)
worded_by rows xs ys f past local e =
    fun_ext
    (λ a.
    ⊎_elim
    (λ i. rw i.0 (e a ∙ local (held xs) (worded rows xs) a (rw i.0)))
    (λ o. let out : 512 * rows ≤ a = omega (arith, o.1) in rw o.0 (sym (past (worded rows xs) a out ∙ rw o.0)))
    (leb_tells (suc a) (512 * rows)))

pub worded_painted : (rows t columns mask colour : ℕ) (xs ys : List ℕ) → t < 512 * rows
    → ((a : ℕ) → held ys a ≡ painted t columns mask colour (held xs) a)
    → worded rows ys ≡ painted t columns mask colour (worded rows xs)
worded_painted rows t columns mask colour xs ys h e =
    worded_by rows xs ys (painted t columns mask colour)
    (λ g a out. rw (block_past rows a t out h))
    (λ g h a s. rw s)
    e

-- a number that is a word already
pub whole : (x : ℕ) → x < 2 ^ 32 → x ≡ x % 2 ^ 32
whole x h = sym (mod-eq_of_lt h)
