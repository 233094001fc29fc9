-- What a system in memory holds.
use Rattle.std.specs.Prelude.{ℕ, ◌≤◌, Bool, false, List, length, take, drop, fold, Option, Some, None, if◌then◌else◌}
use Rattle.dv_shelf.specs.Folders.{Folder, counted}
use Rattle.dv_shelf.specs.Failures.{is_behind, is_listed}
use Rattle.dv_system.specs.declared.system.Entry.{Entry}
use Rattle.dv_system.specs.Disks.{Disk, LeftBy}
use Rattle.dv_memory_system.specs.declared.failing.Turn.{Turn}
use Rattle.dv_memory_system.specs.declared.failing.Turn.TheVariants.{Passes, Fails}
use Rattle.dv_memory_system.specs.declared.failing.Trace.TheVariants.{Nothing}
use Rattle.dv_memory_system.specs.declared.step.Step.{Step}
use Rattle.dv_memory_system.specs.declared.system.MemFile.{MemFile}
use Rattle.dv_memory_system.specs.declared.system.MemSystem.{MemSystem}
use Rattle.dv_memory_system.specs.Steps.{disk_after}
use Rattle.dv_memory_system.specs.Places.{place_then, same_entry}

-- its folder
abbrev pub disk_of : MemSystem → Disk
disk_of system = disk_after system.steps

-- where an open file stands behind some calls
abbrev pub place_of : List Step → MemFile → Option Entry
place_of steps file = fold place_then (Some file.entry) (drop file.since steps)

-- it is this entry
abbrev pub is_place : Option Entry → Entry → Bool
is_place None entry = false
is_place (Some place) entry = same_entry place entry

-- the open file stands at this entry
abbrev pub stands_at : MemSystem → MemFile → Entry → Bool
stands_at system file entry = is_place (place_of system.steps file) entry

-- this moment: how many calls have done something
abbrev pub moment_of : MemSystem → ℕ
moment_of system = length system.steps

-- What a crash since a moment might have left: after one of the calls or between two, and so also
-- during one, which leaves nothing that it hasn't before or after.
abbrev pub LeftSince : List Step → ℕ → Folder → Type 0
LeftSince steps t folder =
    (k : ℕ) × (t ≤ k) × (k ≤ length steps) × LeftBy (disk_after (take k steps)) folder

abbrev pub left_of : MemSystem → ℕ → Folder → Type 0
left_of system = LeftSince system.steps

-- the number of the next call; the first is 1
abbrev pub next_call : MemSystem → ℕ
next_call system = counted system.calls 1

-- one call more is counted
abbrev pub after_call : MemSystem → MemSystem
after_call system = record system { calls = next_call system }

-- what becomes of the next call
abbrev pub turn_of : MemSystem → Turn
turn_of system =
    if is_behind system.stop (next_call system) then Fails Nothing
    else if is_listed system.fails (next_call system) then Fails system.trace
    else Passes
