-- How great a number of some digits may be.
use Rattle.std.proofs.Common.{◌≡◌, ℕ, ◌^◌, ◌<◌, ◌≤◌, arith}
use Rattle.std.proofs.Math.Nat.{pow-le-pow_right}

-- eight digits
pub eight : (value i : ℕ) → value < 10 ^ i → i ≤ 8 → value < 100000000
eight value i below few =
    let power : 10 ^ i ≤ 10 ^ 8 = pow-le-pow_right (omega arith) few in
    omega (arith, below, power)
