-- A clock before a run and now.
use Rattle.std.specs.Prelude.{ℕ}
use Rattle.dv_shelf.specs.Sees.{SeesTime}

-- the readings of a clock that are to come, where it tells them
pub record Times : Type 1 where
  pub told : Type 0
  pub clock : ℕ → ℕ
  pub clock_now : ℕ → ℕ

-- these
abbrev pub times_with : Type 0 → (ℕ → ℕ) → (ℕ → ℕ) → Times
times_with told clock clock_now = record { told = told; clock = clock; clock_now = clock_now }

-- these before, and those of an object now
abbrev pub times_from : {C : Type 0} → SeesTime C → (ℕ → ℕ) → C → Times
times_from sees clock new = times_with sees.tells clock (sees.upcoming new)

-- those of an object, before and now
abbrev pub times_of : {C : Type 0} → SeesTime C → C → C → Times
times_of sees old new = times_from sees (sees.upcoming old) new
