-- Sixteen digits fit 64 bits.
use Rattle.std.proofs.Common.{◌≡◌, ℕ, ◌+◌, ◌*◌, ◌^◌, ◌≤◌, add-one, arith}
use Rattle.std.proofs.Math.Nat.{pow-suc, pow-le-pow_right}

pub power_more : (i : ℕ) → 16 ^ (i + 1) ≡ 16 ^ i * 16
power_more i = rw add-one (pow-suc 16 i)

pub power_below : (i : ℕ) → i ≤ 16 → 16 ^ i ≤ 2 ^ 64
power_below i le = pow-le-pow_right {n = 16} (omega arith) {i = i} {j = 16} le
