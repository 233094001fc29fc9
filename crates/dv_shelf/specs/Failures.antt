-- Which calls of an object in memory fail.
use Rattle.std.specs.Prelude.{ℕ, Bool, false, List, Option, Some, None, nat_eq, nat_lt, if◌then◌else◌}
use Rattle.std.specs.List.{list_any}
use Rattle.dv_shelf.specs.Folders.{counted}
use Rattle.dv_shelf.specs.declared.failures.Failures.{Failures}
use Rattle.dv_shelf.specs.declared.failures.Turn.{Turn}
use Rattle.dv_shelf.specs.declared.failures.Turn.TheVariants.{Passes, Fails, Stopped}

-- the number of the next call; the first is 1
abbrev pub next_call : Failures → ℕ
next_call failures = counted failures.calls 1

-- a call that the list lets fail
abbrev pub is_listed : List ℕ → ℕ → Bool
is_listed listed call = list_any (λ k. nat_eq k call) listed

-- a call behind the stop
abbrev pub is_behind : Option ℕ → ℕ → Bool
is_behind None call = false
is_behind (Some stop) call = nat_lt stop call

-- what becomes of the next call
abbrev pub turn_of : Failures → Turn
turn_of failures =
    if is_behind failures.stop (next_call failures) then Stopped
    else if is_listed failures.listed (next_call failures) then Fails
    else Passes

-- one call more is counted
abbrev pub after_call : Failures → Failures
after_call failures = record failures { calls = next_call failures }

-- one fault more is counted
abbrev pub after_fault : Failures → Failures
after_fault failures = record failures { faults = counted failures.faults 1 }

-- a call was answered, with an error or not
abbrev pub after_answer : Failures → Bool → Failures
after_answer failures failed =
    if failed then after_fault (after_call failures) else after_call failures

-- no call was made yet
abbrev pub untried : List ℕ → Option ℕ → Failures
untried listed stop = record { listed = listed; stop = stop; calls = 0; faults = 0 }
