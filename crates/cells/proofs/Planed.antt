-- Bytes painted, and what the words are then.
use Rattle.std.proofs.Common.{◌≡◌, ℕ, zero, suc, ◌+◌, ◌*◌, ◌/◌, ◌%◌, ◌^◌, ◌<◌, ◌≤◌, true, false, cond, eqb, ◌≢◌, List, length, get_or, drop, set, sym, refl, ap, ◌∙◌, ⊎_elim, le_of_suc-le-suc, not-suc-le-zero, eq-or-lt_of_le, add-one, arith}
use mathlib.Core.Path.{fun_ext}
use lib.Bits.{bit_and, and_mask, and_zero_r}
use Rattle.std.proofs.lemmas.Nat.{shr-shr}
use Rattle.std.proofs.lemmas.List.{get_or-set_same, get_or-set_other, length-set, drop-set-lt}
use Rattle.std.proofs.lemmas.Bool.Decides.{nat_tests, eqb_tells, leb_tells}
use Rattle.rules.specs.Words.{bit, put, wide, chosen}
use Rattle.rules.specs.Cells.{written, painted}
use Rattle.cells.specs.Planes.{number, first, plane_bit, planed, brush, ink, brushed}
use Rattle.cells.proofs.Bits.{bit_below, bit_and_is, bit_put, bit_full, bit_none, bit_byte, bit_column, number_below, number_bit, same_bits, put_below, one_column, put_none, and_word, block_past}

-- two bytes of two blocks lie apart
pub first_apart : (rows a t i j : ℕ) → a < 512 * rows → t < 512 * rows → i < 32 → j < 32 → a / 8 ≢ t / 8 → first rows a + 64 * i ≢ first rows t + 64 * j
first_apart rows a t i j ha ht hi hj ne e = ne (grind (arith, nat_tests))

-- the eight columns of a block share their bytes
pub first_same : (rows a t : ℕ) → a / 8 ≡ t / 8 → first rows a ≡ first rows t
first_same rows a t e =
    let u : a / 256 ≡ t / 256 = omega arith in
    let v : a % 256 / 8 ≡ t % 256 / 8 = omega arith in
    rw (u, v)

pub first_within : (rows t : ℕ) → t < 512 * rows → first rows t + 1984 < 2048 * rows
first_within rows t h = grind (arith, nat_tests)

module _ (at columns mask colour : ℕ) (bytes : List ℕ) where
  pub length_brushed : (n : ℕ) → length (brushed at columns mask colour bytes n) ≡ length bytes
  unfolding brushed
  length_brushed zero = refl
  length_brushed (suc n) = length-set _ _ _ ∙ length_brushed n

  pub brushed_other : (n p : ℕ) → ((i : ℕ) → i < n → p ≢ at + 64 * i) → get_or (brushed at columns mask colour bytes n) p 0 ≡ get_or bytes p 0
  unfolding brushed
  brushed_other zero p h = refl
  brushed_other (suc n) p h =
      get_or-set_other (brushed at columns mask colour bytes n) (at + 64 * n) p _ 0 (h n (omega arith)) ∙
      brushed_other n p (λ i l. h i (omega arith))

  pub brushed_at : (n i : ℕ) → i < n → at + 64 * n ≤ length bytes + 63
      → get_or (brushed at columns mask colour bytes n) (at + 64 * i) 0 ≡ put (brush columns mask i) (ink colour i) (get_or bytes (at + 64 * i) 0)
  unfolding brushed
  brushed_at zero i h l = absurd (not-suc-le-zero h)
  brushed_at (suc n) i h l =
      ⊎_elim
      (λ e.
      let b : at + 64 * n < length (brushed at columns mask colour bytes n) = omega (arith, length_brushed n) in
      rw e
      (get_or-set_same (brushed at columns mask colour bytes n) (at + 64 * n) _ 0 b ∙
      ap (put (brush columns mask n) (ink colour n)) (brushed_other n (at + 64 * n) (λ j k. omega arith))))
      (λ k.
      let ne : at + 64 * i ≢ at + 64 * n = omega arith in
      get_or-set_other (brushed at columns mask colour bytes n) (at + 64 * n) (at + 64 * i) _ 0 ne ∙ brushed_at n i k (omega arith))
      (eq-or-lt_of_le (le_of_suc-le-suc h))

-- one plane more
pub brushed_more : (at columns mask colour : ℕ) (bytes ys : List ℕ) (n v : ℕ) → ys ≡ brushed at columns mask colour bytes n
    → v ≡ put (brush columns mask n) (ink colour n) (get_or ys (at + 64 * n) 0)
    → set ys (at + 64 * n) v ≡ brushed at columns mask colour bytes (n + 1)
unfolding brushed
brushed_more at columns mask colour bytes ys n v e f = rw (add-one, f, e)

-- which columns of a byte are reached
pub bit_brush : (columns mask i j : ℕ) → j < 8 → bit (brush columns mask i) j ≡ bit_and (bit columns (8 * (i / 8) + j)) (bit mask i)
bit_brush columns mask i j h =
    ⊎_elim
    (λ t.
    rw (t.0, t.1)
    (bit_byte (columns / 2 ^ (8 * (i / 8))) j h ∙ ap (λ (x : ℕ). x % 2) (shr-shr columns (8 * (i / 8)) j) ∙
    sym (and_mask (bit columns (8 * (i / 8) + j)) 1 ∙ omega arith)))
    (λ f. let z : bit mask i ≡ 0 = omega (arith, f.1) in rw (f.0, z) (bit_none j ∙ sym (and_zero_r _)))
    (eqb_tells (bit mask i) 1)

pub bit_ink : (colour i j : ℕ) → j < 8 → bit (ink colour i) j ≡ bit colour i
bit_ink colour i j h =
    ⊎_elim (λ t. rw (t.0, t.1) (bit_full j h)) (λ f. let z : bit colour i ≡ 0 = omega (arith, f.1) in rw (f.0, z) (bit_none j))
    (eqb_tells (bit colour i) 1)

module _ (rows : ℕ) (bytes : List ℕ) (t columns mask colour : ℕ) (fits : 2048 * rows ≤ length bytes) (within : t < 512 * rows) (narrow : colour < 2 ^ 32) where
  abbrev after : List ℕ
  after = brushed (first rows t) columns mask colour bytes 32

  in_block : (a i : ℕ) → i < 32 → a / 8 ≡ t / 8
      → plane_bit rows after a i ≡ bit (put (bit_and (wide (chosen columns (a % 8))) mask) colour (number (plane_bit rows bytes a) 32)) i
  in_block a i h e =
      let p = first_same rows a t e in
      let w : first rows t + 64 * 32 ≤ length bytes + 63 = omega (arith, first_within rows t within) in
      let j : a % 8 < 8 = omega arith in
      let x : get_or after (first rows a + 64 * i) 0 ≡ put (brush columns mask i) (ink colour i) (get_or bytes (first rows a + 64 * i) 0) =
      rw p (brushed_at (first rows t) columns mask colour bytes 32 i h w) in
      ap (λ (b : ℕ). bit b (a % 8)) x ∙
      bit_put (brush columns mask i) (ink colour i) (get_or bytes (first rows a + 64 * i) 0) (a % 8) ∙
      rw (bit_brush columns mask i (a % 8) j, bit_ink colour i (a % 8) j)
      (sym
      (bit_put (bit_and (wide (chosen columns (a % 8))) mask) colour (number (plane_bit rows bytes a) 32) i ∙
      rw (bit_and_is (wide (chosen columns (a % 8))) mask i, bit_column columns (a % 8) i h, number_bit (plane_bit rows bytes a) 32 i (λ k. bit_below _ _) h)))

  off_block : (a i : ℕ) → i < 32 → a < 512 * rows → a / 8 ≢ t / 8 → plane_bit rows after a i ≡ plane_bit rows bytes a i
  off_block a i h b ne =
      ap (λ (b : ℕ). bit b (a % 8))
      (brushed_other (first rows t) columns mask colour bytes 32 (first rows a + 64 * i) (λ k l. first_apart rows a t i k b within h l ne))

  at : (a : ℕ) → planed rows after a ≡ painted t columns mask colour (planed rows bytes) a
  at a =
      ⊎_elim
      (λ i.
      let b : a < 512 * rows = i.1 in
      ⊎_elim
      (λ s.
      rw (i.0, s.0)
      (same_bits 32 (number (plane_bit rows after a) 32) (put (bit_and (wide (chosen columns (a % 8))) mask) colour (number (plane_bit rows bytes a) 32))
      (number_below _ 32 (λ k. bit_below _ _)) (put_below 32 _ colour _ narrow (number_below (plane_bit rows bytes a) 32 (λ k. bit_below _ _)))
      (λ k h. number_bit (plane_bit rows after a) 32 k (λ k. bit_below _ _) h ∙ in_block a k h s.1)))
      (λ o.
      rw (i.0, o.0)
      (same_bits 32 (number (plane_bit rows after a) 32) (number (plane_bit rows bytes a) 32)
      (number_below _ 32 (λ k. bit_below _ _)) (number_below _ 32 (λ k. bit_below _ _))
      (λ k h. number_bit (plane_bit rows after a) 32 k (λ k. bit_below _ _) h ∙ off_block a k h b o.1 ∙ sym (number_bit (plane_bit rows bytes a) 32 k (λ k. bit_below _ _) h))))
      (eqb_tells (a / 8) (t / 8)))
      (λ o. rw (o.0, block_past rows a t (le_of_suc-le-suc o.1) within))
      (leb_tells (suc a) (512 * rows))

  pub planed_brushed : planed rows after ≡ painted t columns mask colour (planed rows bytes)
  planed_brushed = fun_ext at

-- the same of the bytes that are left
pub planed_after : (rows at : ℕ) (bytes after : List ℕ) (t columns mask colour : ℕ) → at ≡ first rows t
    → after ≡ brushed at columns mask colour bytes 32 → 2048 * rows ≤ length bytes → t < 512 * rows → colour < 2 ^ 32
    → planed rows after ≡ painted t columns mask colour (planed rows bytes)
planed_after rows at bytes after t columns mask colour e f fits within narrow =
    rw (f, e) (planed_brushed rows bytes t columns mask colour fits within narrow)

drop_brushed : (at columns mask colour n k : ℕ) (bytes : List ℕ) → at + 64 * n < k + 64 → drop k (brushed at columns mask colour bytes n) ≡ drop k bytes
unfolding brushed
drop_brushed at columns mask colour zero k bytes h = refl
drop_brushed at columns mask colour (suc n) k bytes h =
    drop-set-lt k (brushed at columns mask colour bytes n) (at + 64 * n) _ (omega arith) ∙ drop_brushed at columns mask colour n k bytes (omega arith)

pub rest_after : (rows at : ℕ) (bytes after : List ℕ) (t columns mask colour : ℕ) → at ≡ first rows t
    → after ≡ brushed at columns mask colour bytes 32 → t < 512 * rows → drop (2048 * rows) after ≡ drop (2048 * rows) bytes
rest_after rows at bytes after t columns mask colour e f within =
    ap (drop (2048 * rows)) f ∙ drop_brushed at columns mask colour 32 (2048 * rows) bytes (omega (arith, e, first_within rows t within))

same_column : (a t : ℕ) → a ≡ t → (eqb (a / 8) (t / 8) ≡ true) × (eqb (a % 8) (t % 8) ≡ true)
same_column a t e = (grind (arith, nat_tests), grind (arith, nat_tests))

other_column : (a t : ℕ) → a ≢ t → a / 8 ≡ t / 8 → eqb (a % 8) (t % 8) ≡ false
other_column a t ne e = grind (arith, nat_tests)

pub painted_one : (t mask word : ℕ) (cells : ℕ → ℕ) → mask < 2 ^ 32 → painted t ((16843009 * 2 ^ (t % 8)) % 2 ^ 32) mask word cells ≡ written t mask word cells
painted_one t mask word cells h =
    let column : (a : ℕ) → wide (chosen ((16843009 * 2 ^ (t % 8)) % 2 ^ 32) (a % 8)) ≡ cond (eqb (a % 8) (t % 8)) 4294967295 0 =
    λ a. one_column (t % 8) (a % 8) (omega arith) (omega arith) in
    let new : ℕ → ℕ → ℕ = λ a x. put (bit_and x mask) word (cells a) in
    fun_ext
    (λ a.
    ⊎_elim
    (λ s.
    let d : eqb (a / 8) (t / 8) ≡ true = (same_column a t s.1).0 in
    let q : eqb (a % 8) (t % 8) ≡ true = (same_column a t s.1).1 in
    rw (d, s.0) (ap (new a) (column a ∙ ap (λ b. cond b 4294967295 0) q) ∙ ap (λ (x : ℕ). put x word (cells a)) (and_word mask h)))
    (λ o.
    ⊎_elim
    (λ s.
    let q : eqb (a % 8) (t % 8) ≡ false = other_column a t o.1 s.1 in
    rw (s.0, o.0) (ap (new a) (column a ∙ ap (λ b. cond b 4294967295 0) q) ∙ put_none word (cells a)))
    (λ n. rw (n.0, o.0))
    (eqb_tells (a / 8) (t / 8)))
    (eqb_tells a t))

-- what a brush leaves is a byte
pub brush_byte : (columns mask colour i old v : ℕ) → old < 256 → v ≡ put (brush columns mask i) (ink colour i) old → v < 256
brush_byte columns mask colour i old v h e =
    let b : ink colour i < 2 ^ 8 = grind (arith, nat_tests) in
    rw e (put_below 8 (brush columns mask i) (ink colour i) old b h)

-- cleared bytes are words of zero
pub planed_cleared : (rows : ℕ) (bytes : List ℕ) → ((j : ℕ) → j < 2048 * rows → get_or bytes j 0 ≡ 0) → planed rows bytes ≡ (λ a. 0)
planed_cleared rows bytes zeros =
    fun_ext
    (λ a.
    ⊎_elim
    (λ i.
    rw i.0
    (same_bits 32 (number (plane_bit rows bytes a) 32) 0 (number_below _ 32 (λ k. bit_below _ _)) (omega arith)
    (λ k h.
    let b : first rows a + 64 * k < 2048 * rows = omega (arith, first_within rows a i.1) in
    number_bit (plane_bit rows bytes a) 32 k (λ k. bit_below _ _) h ∙
    ap (λ (x : ℕ). bit x (a % 8)) (zeros (first rows a + 64 * k) b) ∙
    bit_none (a % 8) ∙ sym (bit_none k))))
    (λ o. rw o.0)
    (leb_tells (suc a) (512 * rows)))
