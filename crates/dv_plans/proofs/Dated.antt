-- A reading of a clock that need not tell.
use Rattle.std.proofs.Common.{◌≡◌, ℕ, ◌<◌, ◌%◌, ◌^◌, Bool, true, false, refl, arith}
use Rattle.std.proofs.Math.Nat.{mod-eq_of_lt, mod-lt}
use Rattle.dv_model.specs.Journals.{IsU32}
use Rattle.dv_plans.specs.Begins.{AtReading}

-- a number of 32 bits, which is this one where that is such a number
abbrev pub cut : ℕ → ℕ
cut n = n % 2 ^ 32

pub cut_small : (n : ℕ) → IsU32 (cut n)
cut_small n = mod-lt n (omega arith)

pub cut_same : (n : ℕ) → n < 2 ^ 32 → cut n ≡ n
cut_same n less = mod-eq_of_lt less

-- a time that counts for an append alone is that of some reading, the clock's where it tells
pub dated_at : (tells : Type 0) (appends : Bool) (received known : ℕ) → IsU32 received → (tells → known < 2 ^ 32) → (tells → appends ≡ true → received ≡ known)
    → AtReading tells known (λ at. appends ≡ true → received ≡ at)
dated_at tells true received known small bound same = record { at = received; small = small; clock = λ reads. same reads refl; is = λ append. refl }
dated_at tells false received known small bound same = record { at = cut known; small = cut_small known; clock = λ reads. cut_same known (bound reads); is = λ append. absurd cc }
