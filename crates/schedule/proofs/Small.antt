-- Words stay below 2 ^ 32.
use Rattle.std.proofs.Common.{◌≡◌, ℕ, zero, suc, ◌/◌, ◌^◌, ◌<◌, Bool, true, false, cond, ◌∙◌, mod-eq_of_lt, arith}
use lib.Bits.{bit_and, and_mask, and_comm, and_le_l}
use Rattle.rules.specs.Words.{put}
use Rattle.rules.proofs.Bitwise.{put_half}

pub whole : (w : ℕ) → w < 2 ^ 32 → bit_and 0xffffffff w ≡ w
whole w h = and_comm 0xffffffff w ∙ (and_mask w 32 ∙ mod-eq_of_lt h)

put_within : (k mask new old : ℕ) → new < 2 ^ k → old < 2 ^ k → put mask new old < 2 ^ k
put_within zero m w o h q = omega (arith, and_le_l w m, and_le_l o m)
put_within (suc k) m w o h q =
    let e = put_within k (m / 2) (w / 2) (o / 2) (omega arith) (omega arith) in
    omega (arith, put_half m w o)

pub put_below : (mask new old : ℕ) → new < 2 ^ 32 → old < 2 ^ 32 → put mask new old < 2 ^ 32
put_below = put_within 32

pub cond_below : (z : Bool) (a b x : ℕ) → a < x → b < x → cond z a b < x
cond_below true a b x h q = h
cond_below false a b x h q = q
