-- Numbers by their bits.
use Rattle.std.proofs.Common.{◌≡◌, ℕ, zero, suc, ◌+◌, ◌-◌, ◌*◌, ◌/◌, ◌%◌, ◌^◌, ◌<◌, ◌≤◌, min, max, Bool, false, cond, eqb, refl, sym, ap, ◌∙◌, le_of_suc-le-suc, not-suc-le-zero, mul_comm, add_comm, pow-suc, zero-add, arith}
use mathlib.Core.Path.{fun_ext}
use lib.Bits.{bit_and, bit_or, and_shr, and_mod, and_step, or_step, and_le_l, and_block, and_mask, and_comm, and_zero_r}
use Rattle.std.proofs.lemmas.Nat.{shr-shr}
use Rattle.std.proofs.lemmas.Bool.Decides.{nat_tests}
use Rattle.rules.specs.Words.{bit, put, wide, chosen}
use Rattle.cells.specs.Planes.{number}
use Rattle.std.proofs.lemmas.Bool.{eqb-true}
use Rattle.rules.proofs.Below.{every, every_one}
use Rattle.rules.proofs.Bitwise.{bit_zero, bit_half}

pub bit_below : (n i : ℕ) → bit n i < 2
bit_below n i = omega arith

pub bit_and_is : (a b i : ℕ) → bit (bit_and a b) i ≡ bit_and (bit a i) (bit b i)
bit_and_is a b i = rw (and_shr a b i) (and_mod (a / 2 ^ i) (b / 2 ^ i) 1)

pub same_bits : (k m n : ℕ) → m < 2 ^ k → n < 2 ^ k → ((i : ℕ) → i < k → bit m i ≡ bit n i) → m ≡ n
same_bits zero m n hm hn e = omega arith
same_bits (suc k) m n hm hn e =
    let hm2 : m < 2 ^ k * 2 = rw pow-suc at hm in
    let hn2 : n < 2 ^ k * 2 = rw pow-suc at hn in
    let half : m / 2 ≡ n / 2 =
    same_bits k (m / 2) (n / 2) (omega arith) (omega arith)
    (λ i h. let l : suc i < suc k = omega arith in sym (bit_half m i) ∙ e (suc i) l ∙ bit_half n i) in
    let l0 : 0 < suc k = omega arith in
    let low : m % 2 ≡ n % 2 = sym (bit_zero m) ∙ e 0 l0 ∙ bit_zero n in
    omega arith

-- a number made of bits
pub number_below : (f : ℕ → ℕ) (n : ℕ) → ((i : ℕ) → f i < 2) → number f n < 2 ^ n
unfolding number
number_below f zero h = omega arith
number_below f (suc n) h = rw pow-suc (omega (arith, h 0, number_below (λ i. f (suc i)) n (λ i. h (suc i))))

pub number_bit : (f : ℕ → ℕ) (n i : ℕ) → ((i : ℕ) → f i < 2) → i < n → bit (number f n) i ≡ f i
unfolding number
number_bit f zero i h l = absurd (not-suc-le-zero l)
number_bit f (suc n) zero h l = bit_zero (number f (suc n)) ∙ omega (arith, h 0)
number_bit f (suc n) (suc i) h l =
    let e : (f 0 + 2 * number (λ i. f (suc i)) n) / 2 ≡ number (λ i. f (suc i)) n = omega (arith, h 0) in
    bit_half (number f (suc n)) i ∙ ap (λ (x : ℕ). bit x i) e ∙ number_bit (λ i. f (suc i)) n i (λ i. h (suc i)) (le_of_suc-le-suc l)

-- the bits from i on: `2 * found + r`
pub number_front : (f : ℕ → ℕ) (n i : ℕ) → i < n → number (λ j. f (i + j)) (n - i) ≡ 2 * number (λ j. f (suc i + j)) (n - suc i) + f i
unfolding number
number_front f n i h =
    let e : n - i ≡ suc (n - suc i) = omega arith in
    let g : number (λ j. f (i + suc j)) (n - suc i) ≡ number (λ j. f (suc i + j)) (n - suc i) =
    ap (λ (g : ℕ → ℕ). number g (n - suc i)) (fun_ext (λ j. let k : i + suc j ≡ suc i + j = omega arith in ap f k)) in
    let z : i + 0 ≡ i = omega arith in
    rw e (omega (arith, g, ap f z))

pub number_down : (f : ℕ → ℕ) (n i found r : ℕ) → 0 < i → i ≤ n → found ≡ number (λ j. f (i + j)) (n - i) → r ≡ f (i - 1)
    → 2 * found + r ≡ number (λ j. f (i - 1 + j)) (n - (i - 1))
number_down f n i found r h l e g =
    let s : suc (i - 1) ≡ i = omega arith in
    let w : number (λ j. f (i - 1 + j)) (n - (i - 1)) ≡ 2 * number (λ j. f (i + j)) (n - i) + f (i - 1) =
    number_front f n (i - 1) (omega arith) ∙ ap (λ (k : ℕ). 2 * number (λ j. f (k + j)) (n - k) + f (i - 1)) s in
    omega (arith, w)

-- the step from a half
pub put_half : (m w o : ℕ) → put m w o / 2 ≡ put (m / 2) (w / 2) (o / 2)
put_half m w o = omega (arith, and_step o m, and_step w m, and_le_l (o / 2) (m / 2))

pub put_low : (m w o : ℕ) → put m w o % 2 ≡ cond (eqb (m % 2) 1) (w % 2) (o % 2)
put_low m w o =
    let e : put m w o % 2 ≡ o % 2 - min (o % 2) (m % 2) + min (w % 2) (m % 2) = omega (arith, and_step o m, and_step w m, and_le_l (o / 2) (m / 2)) in
    e ∙ grind (arith, nat_tests)

pub bit_put : (m w o i : ℕ) → bit (put m w o) i ≡ cond (eqb (bit m i) 1) (bit w i) (bit o i)
bit_put m w o zero = rw (bit_zero (put m w o), bit_zero m, bit_zero w, bit_zero o) (put_low m w o)
bit_put m w o (suc i) =
    rw (bit_half m i, bit_half w i, bit_half o i) (bit_half (put m w o) i ∙ ap (λ (x : ℕ). bit x i) (put_half m w o) ∙ bit_put (m / 2) (w / 2) (o / 2) i)

pub put_below : (k m w o : ℕ) → w < 2 ^ k → o < 2 ^ k → put m w o < 2 ^ k
put_below zero m w o hw ho = omega (arith, and_le_l o m, and_le_l w m)
put_below (suc k) m w o hw ho =
    let hw2 : w < 2 ^ k * 2 = rw pow-suc at hw in
    let ho2 : o < 2 ^ k * 2 = rw pow-suc at ho in
    rw pow-suc (omega (arith, put_half m w o, put_below k (m / 2) (w / 2) (o / 2) (omega arith) (omega arith)))

-- numbers with the same half and the same last bit
by_half : (a b : ℕ) → a / 2 ≡ b / 2 → a % 2 ≡ b % 2 → a ≡ b
by_half a b h l = omega arith

and_half : (a b : ℕ) → bit_and a b / 2 ≡ bit_and (a / 2) (b / 2)
and_half a b = omega (arith, and_step a b)

and_last : (a b : ℕ) → bit_and a b % 2 ≡ min (a % 2) (b % 2)
and_last a b = omega (arith, and_step a b)

or_half : (a b : ℕ) → bit_or a b / 2 ≡ bit_or (a / 2) (b / 2)
or_half a b = omega (arith, or_step a b)

or_last : (a b : ℕ) → bit_or a b % 2 ≡ max (a % 2) (b % 2)
or_last a b = omega (arith, or_step a b)

-- `!mask` at k + 1 bits
not_half : (k m : ℕ) → m < 2 ^ k * 2 → (2 ^ k * 2 - 1 - m) / 2 ≡ 2 ^ k - 1 - m / 2
not_half k m h = omega arith

not_last : (k m : ℕ) → m < 2 ^ k * 2 → (2 ^ k * 2 - 1 - m) % 2 ≡ 1 - m % 2
not_last k m h = omega arith

one_bit : (m w o : ℕ) → m < 2 → w < 2 → o < 2 → max (min o (1 - m)) (min w m) ≡ cond (eqb m 1) w o
one_bit m w o hm hw ho = grind (arith, nat_tests)

-- `old & !mask | new & mask`
pub put_code : (k m w o : ℕ) → m < 2 ^ k → o < 2 ^ k → bit_or (bit_and o (2 ^ k - 1 - m)) (bit_and w m) ≡ put m w o
put_code zero m w o hm ho =
    let m0 : m ≡ 0 = omega arith in
    let o0 : o ≡ 0 = omega arith in
    rw (m0, o0) (rw and_zero_r)
put_code (suc k) m w o hm ho =
    let hm2 : m < 2 ^ k * 2 = rw pow-suc at hm in
    let ho2 : o < 2 ^ k * 2 = rw pow-suc at ho in
    let c = 2 ^ k * 2 - 1 - m in
    rw pow-suc
    (by_half (bit_or (bit_and o c) (bit_and w m)) (put m w o)
    (or_half (bit_and o c) (bit_and w m) ∙
    rw (and_half o c, and_half w m, not_half k m hm2) (put_code k (m / 2) (w / 2) (o / 2) (omega arith) (omega arith)) ∙
    sym (put_half m w o))
    (or_last (bit_and o c) (bit_and w m) ∙
    rw (and_last o c, and_last w m, not_last k m hm2) (one_bit (m % 2) (w % 2) (o % 2) (omega arith) (omega arith) (omega arith)) ∙
    sym (put_low m w o)))

pub bit_full : (j : ℕ) → j < 8 → bit 255 j ≡ 1
bit_full j h = eqb-true _ _ (every_one (λ j. eqb (bit 255 j) 1) 8 j refl h)

pub bit_none : (j : ℕ) → bit 0 j ≡ 0
bit_none zero = bit_zero 0
bit_none (suc j) = bit_half 0 j ∙ bit_none j

pub bit_byte : (x j : ℕ) → j < 8 → bit (x % 256) j ≡ bit x j
bit_byte x j h =
    sym (ap (λ (y : ℕ). bit y j) (and_mask x 8)) ∙ bit_and_is x 255 j ∙ ap (bit_and (bit x j)) (bit_full j h) ∙ and_mask (bit x j) 1 ∙ omega arith

bit_wide : (c i : ℕ) → c < 16 → i < 32 → bit (wide c) i ≡ bit c (i / 8)
bit_wide c i hc hi =
    eqb-true _ _
    (every_one (λ i. eqb (bit (wide c) i) (bit c (i / 8))) 32 i (every_one (λ c. every (λ i. eqb (bit (wide c) i) (bit c (i / 8))) 32) 16 c refl hc) hi)

bit_chosen : (dq k j : ℕ) → j < 4 → bit (chosen dq k) j ≡ bit dq (8 * j + k)
bit_chosen dq k zero h = rw zero-add (bit_zero (chosen dq k) ∙ omega arith)
bit_chosen dq k (suc zero) h = omega arith
bit_chosen dq k (suc (suc zero)) h = omega arith
bit_chosen dq k (suc (suc (suc zero))) h = omega arith
bit_chosen dq k (suc (suc (suc (suc j)))) h = let z : ◌≡◌ {A = ℕ} 0 1 = omega arith in omega arith

pub bit_column : (dq k i : ℕ) → i < 32 → bit (wide (chosen dq k)) i ≡ bit dq (8 * (i / 8) + k)
bit_column dq k i h = bit_wide (chosen dq k) i (omega arith) h ∙ bit_chosen dq k (i / 8) (omega arith)

-- `columns >> k & 0x0101_0101`
lane : (x c : ℕ) → bit_and x (c * 256 + 1) ≡ bit_and (x / 256) c * 256 + x % 2
lane x c =
    let e : x ≡ x / 256 * 256 + x % 256 = omega arith in
    ap (λ (y : ℕ). bit_and y (c * 256 + 1)) e ∙
    and_block 8 (x / 256) c (x % 256) 1 (omega arith) (omega arith) ∙
    ap (λ (y : ℕ). bit_and (x / 256) c * 256 + y) (and_mask (x % 256) 1 ∙ omega arith)

lanes : (x : ℕ) → bit_and x 16843009 ≡ x % 2 + 256 * (x / 2 ^ 8 % 2 + 256 * (x / 2 ^ 16 % 2 + 256 * (x / 2 ^ 24 % 2)))
lanes x =
    let a = lane x 65793 in
    let b : bit_and (x / 256) 65793 ≡ bit_and (x / 2 ^ 16) 257 * 256 + x / 256 % 2 = lane (x / 256) 257 ∙ ap (λ (y : ℕ). bit_and y 257 * 256 + x / 256 % 2) (shr-shr x 8 8) in
    let c : bit_and (x / 2 ^ 16) 257 ≡ x / 2 ^ 24 % 2 * 256 + x / 2 ^ 16 % 2 =
    lane (x / 2 ^ 16) 1 ∙ ap (λ (y : ℕ). y * 256 + x / 2 ^ 16 % 2) (and_mask (x / 2 ^ 16 / 256) 1 ∙ ap (λ (y : ℕ). y % 2) (shr-shr x 16 8)) in
    omega (arith, a, b, c)

wide_bits : (a b c d : ℕ) → a < 2 → b < 2 → c < 2 → d < 2 → wide (a + 2 * b + 4 * c + 8 * d) ≡ 255 * (a + 256 * (b + 256 * (c + 256 * d)))
wide_bits a b c d ha hb hc hd =
    let f : ℕ → ℕ → ℕ → ℕ → Bool = λ a b c d. eqb (wide (a + 2 * b + 4 * c + 8 * d)) (255 * (a + 256 * (b + 256 * (c + 256 * d)))) in
    eqb-true _ _
    (every_one (f a b c) 2 d
    (every_one (λ c. every (f a b c) 2) 2 c
    (every_one (λ b. every (λ c. every (f a b c) 2) 2) 2 b (every_one (λ a. every (λ b. every (λ c. every (f a b c) 2) 2) 2) 2 a refl ha) hb) hc) hd)

pub column_code : (dq k : ℕ) → bit_and (dq / 2 ^ k) 16843009 * 255 ≡ wide (chosen dq k)
column_code dq k =
    let x = dq / 2 ^ k in
    let at : (s : ℕ) → bit x s ≡ bit dq (s + k) = λ s. ap (λ (n : ℕ). n % 2) (shr-shr dq k s ∙ ap (λ (n : ℕ). dq / 2 ^ n) (add_comm k s)) in
    let e = wide_bits (bit dq k) (bit dq (8 + k)) (bit dq (16 + k)) (bit dq (24 + k)) (bit_below _ _) (bit_below _ _) (bit_below _ _) (bit_below _ _) in
    let f = lanes x in
    let g : bit_and x 16843009 ≡ bit dq k + 256 * (bit dq (8 + k) + 256 * (bit dq (16 + k) + 256 * bit dq (24 + k))) =
    rw (← at 8, ← at 16, ← at 24) f in
    ap (λ (y : ℕ). y * 255) g ∙ mul_comm _ 255 ∙ sym e

-- one column in all lanes
pub one_column : (j k : ℕ) → j < 8 → k < 8 → wide (chosen ((16843009 * 2 ^ j) % 2 ^ 32) k) ≡ cond (eqb k j) 4294967295 0
one_column j k hj hk =
    eqb-true _ _
    (every_one (λ k. eqb (wide (chosen ((16843009 * 2 ^ j) % 2 ^ 32) k)) (cond (eqb k j) 4294967295 0)) 8 k
    (every_one (λ j. every (λ k. eqb (wide (chosen ((16843009 * 2 ^ j) % 2 ^ 32) k)) (cond (eqb k j) 4294967295 0)) 8) 8 j refl hj) hk)

pub put_none : (w o : ℕ) → put 0 w o ≡ o
put_none w o = omega (arith, and_zero_r o, and_zero_r w)

pub and_word : (m : ℕ) → m < 2 ^ 32 → bit_and 4294967295 m ≡ m
and_word m h = and_comm 4294967295 m ∙ and_mask m 32 ∙ omega arith

-- a block of eight words does not reach past the last address
pub block_past : (rows a t : ℕ) → 512 * rows ≤ a → t < 512 * rows → eqb (a / 8) (t / 8) ≡ false
block_past rows a t h l = grind (arith, nat_tests)
