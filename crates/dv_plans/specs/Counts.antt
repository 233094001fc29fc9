-- How many message files are read, by a count that stops at the end of its type.
use Rattle.std.specs.Prelude.{◌≡◌, ◌≤◌, ℕ, Option, Some, Result, Ok, Err}
use Rattle.dv_shelf.specs.Folders.{counted}
use Rattle.dv_plans.specs.declared.fault.StoreFault.{StoreFault}

-- so many
abbrev pub CountsReads : ℕ → ℕ → ℕ → Type 0
CountsReads n before now = counted now 0 ≡ counted before n

-- so many at most
abbrev pub CountsUpTo : ℕ → ℕ → ℕ → Type 0
CountsUpTo most before now = (n : ℕ) × (n ≤ most) × CountsReads n before now

-- behind Ok so many, behind an error at most so many
abbrev pub CountsMails : ℕ → ℕ → ℕ → {T E : Type 0} → Result T E → Type 0
CountsMails n before now (Ok x) = CountsReads n before now
CountsMails n before now (Err e) = CountsUpTo n before now

-- so it is where something is made ready; else at most so many
abbrev pub CountsPlanned : ℕ → ℕ → ℕ → {A : Type 0} → Result (Option A) StoreFault → Type 0
CountsPlanned n before now (Ok (Some x)) = CountsReads n before now
CountsPlanned n before now r = CountsUpTo n before now
