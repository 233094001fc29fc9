-- A number below an end is not cut there.
use Rattle.std.proofs.Common.{◌≡◌, ℕ, ◌≤◌, arith}
use Rattle.std.specs.Prelude.{min}

pub min_low : (n end : ℕ) → n ≤ end → min n end ≡ n
min_low n end le = omega (arith, le)
