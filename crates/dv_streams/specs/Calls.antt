-- What a call that reads or writes does, and what is counted of it.
use Rattle.std.specs.Prelude.{◌≡◌, ℕ, ◌<◌, ◌≤◌, List, ◌++◌, length, take, Result, Ok, Err}
use Rattle.dv_model.specs.Counts.{Rose}
use Rattle.dv_streams.specs.declared.calls.CallFault.{CallFault}
use Rattle.dv_streams.specs.declared.calls.CallFault.TheVariants.{Interrupted, Failed}

-- a failure is counted, and each interruption leaves fewer to come
abbrev pub IsCounted : {T : Type 0} → ℕ → ℕ → ℕ → ℕ → Result T CallFault → Type 0
IsCounted failed now some left (Ok x) = (now ≡ failed) × (left ≤ some)
IsCounted failed now some left (Err Interrupted) = (now ≡ failed) × (left < some)
IsCounted failed now some left (Err Failed) = Rose failed now

-- so many bytes from the front were taken, and of some bytes at least one; or none
abbrev pub TakesSome : {E : Type 0} → List ℕ → List ℕ → List ℕ → Result ℕ E → Type 0
TakesSome old new bytes (Ok n) = (new ≡ old ++ take n bytes) × (0 < length bytes → 0 < n)
TakesSome old new bytes (Err e) = new ≡ old
