-- How a run ends: its status and its last line.
use Rattle.std.specs.Prelude.{◌≡◌, ◌⊎◌, ℕ, Bool, true, false, List, []}
use Rattle.dv_script.specs.declared.types.ScriptEnd.TheVariants as script
use Rattle.dv_beginning.specs.Causes.{fault_status}
use Rattle.dv_cli.specs.declared.ending.End.{End}
use Rattle.dv_cli.specs.declared.ending.End.TheVariants as end
use Rattle.dv_shelf.specs.Streams.{Appends, AppendsFront}
use Rattle.dv_cli.specs.Running.{answered_text, rebuilt_text, usage_text, fault_text, memory_text, script_text, source_text}

-- the exit status of a run that ends so
abbrev pub status_of : End → ℕ
status_of (end.Answered mark groups loaded) = 0
status_of (end.Rebuilt kept skipped) = 0
status_of end.Usage = 1
status_of (end.Unopened f) = fault_status f
status_of end.NoMemory = 4
status_of (end.Script script.NoMemory) = 4
status_of (end.Script fault) = 5
status_of (end.Source faults) = 6
status_of end.Sink = 7

-- where the output failed there is no last line
abbrev pub text_of : End → List ℕ
text_of (end.Answered mark groups loaded) = answered_text mark groups loaded
text_of (end.Rebuilt kept skipped) = rebuilt_text kept skipped
text_of end.Usage = usage_text
text_of (end.Unopened f) = fault_text f
text_of end.NoMemory = memory_text
text_of (end.Script fault) = script_text fault
text_of (end.Source faults) = source_text faults
text_of end.Sink = []

-- its line takes no memory
abbrev pub is_plain : End → Bool
is_plain end.Usage = true
is_plain end.NoMemory = true
is_plain end.Sink = true
is_plain e = false

-- the status is the end's, unless memory for the last line ran out or the output failed
abbrev pub IsStatus : End → ℕ → Type 0
IsStatus e status =
    (status ≡ status_of e) ⊎ ((is_plain e ≡ false) × (status ≡ 4)) ⊎ (status ≡ 7)

-- the last line was written, or that of want of memory, or a front of either where the output
-- failed
abbrev pub Concludes : End → ℕ → List ℕ → List ℕ → Type 0
Concludes e status old new =
    ((status ≡ status_of e) × Appends old new (text_of e))
    ⊎ ((is_plain e ≡ false) × (status ≡ 4) × Appends old new memory_text)
    ⊎ ((status ≡ 7) × AppendsFront old new (text_of e))
    ⊎ ((is_plain e ≡ false) × (status ≡ 7) × AppendsFront old new memory_text)
