-- The time as a clock of 32 bits shows it.
use Rattle.std.proofs.Common.{ℕ, ◌-◌, ◌^◌, ◌<◌, min, Option, Some, None, arith}

-- 0 where there is none, and the last one that fits where it is later
abbrev pub shown : Option ℕ → ℕ
shown None = 0
shown (Some seconds) = min seconds (2 ^ 32 - 1)

pub shown_small : (seconds : Option ℕ) → shown seconds < 2 ^ 32
shown_small None = omega arith
shown_small (Some seconds) = omega arith
