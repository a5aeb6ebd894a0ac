-- A loop over digits, one digit on.
use Rattle.std.proofs.Common.{ℕ, ◌+◌, ◌*◌, ◌^◌, ◌<◌, ◌≤◌, mul-le-mul_right, arith}
use native.Mathlib.Nat.{pow-le-pow_right}

-- ten of them fit 64 bits
pub bound_fits : (base n i : ℕ) → base ≤ 16 → n < 16 ^ i → i < 10 → base * n + 16 < 2 ^ 64
bound_fits base n i b l h =
    let m : base * n ≤ 16 * n = mul-le-mul_right n b in
    let q : i ≤ 10 = omega arith in
    let p : 16 ^ i ≤ 16 ^ 10 = pow-le-pow_right {n = 16} (omega arith) q in
    omega arith
