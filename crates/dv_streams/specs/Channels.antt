-- What becomes of calls that read or write, in memory.
use Rattle.std.specs.Prelude.{ℕ, ◌<◌, ◌≤◌, Bool, true, false, drop, count_by}
use Rattle.dv_streams.specs.declared.mem_calls.Event.{Event}
use Rattle.dv_streams.specs.declared.mem_calls.Event.TheVariants.{Takes, Interrupted, Failed}
use Rattle.dv_streams.specs.declared.mem_calls.Events.{Events}

abbrev pub is_interruption : Event → Bool
is_interruption (Takes most) = false
is_interruption Interrupted = true
is_interruption Failed = false

-- how often calls are to be interrupted
abbrev pub interruptions_of : Events → ℕ
interruptions_of events = count_by is_interruption (drop events.next events.listed)

-- each interruption leaves fewer to come
abbrev pub Leaves : ℕ → ℕ → Event → Type 0
Leaves some left (Takes most) = left ≤ some
Leaves some left Interrupted = left < some
Leaves some left Failed = left ≤ some
