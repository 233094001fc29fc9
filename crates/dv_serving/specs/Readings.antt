-- How many readings of a clock were taken, and readings of one that need not tell them.
use Rattle.std.specs.Prelude.{◌≡◌, ◌≤◌, ◌<◌, ℕ}
use Rattle.dv_model.specs.Journals.{IsU32}
use Rattle.dv_shelf.specs.Clocks.{behind}

-- so many readings of the clock were taken at most
abbrev pub TakesUpTo : ℕ → (ℕ → ℕ) → (ℕ → ℕ) → Type 0
TakesUpTo most old new = (n : ℕ) × (n ≤ most) × (new ≡ behind old n)

-- each reading is a number of 32 bits
abbrev pub AreReadings : (ℕ → ℕ) → Type 0
AreReadings clock = (n : ℕ) → IsU32 (clock n)

-- the first so many readings are the same
abbrev pub AreAlike : ℕ → (ℕ → ℕ) → (ℕ → ℕ) → Type 0
AreAlike used one other = (n : ℕ) → n < used → one n ≡ other n

-- There are readings, which are those to come of the clock where it tells them, with which this
-- holds.
pub record AtReadings (tells : Type 0) (upcoming : ℕ → ℕ) (Holds : (ℕ → ℕ) → Type 0) : Type 0
  where
    pub clock : ℕ → ℕ
    pub small : AreReadings clock
    pub told : tells → (n : ℕ) → clock n ≡ upcoming n
    pub holds : Holds clock
