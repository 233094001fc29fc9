-- How often the calls of a folder had failed, before and now, and what a line tells of it.
use Rattle.std.specs.Prelude.{◌≡◌, ◌≤◌, ℕ, List, [], ◌∷◌, Result, Ok, Err}
use Rattle.dv_model.specs.declared.types.Reply.{Reply}
use Rattle.dv_model.specs.Counts.{Rose, RoseBy}
use Rattle.dv_model.specs.Transcripts.{unavailable_count}
use Rattle.dv_shelf.specs.Sees.{SeesFolder}
use Rattle.dv_playing.specs.Playing.{Failed, Outcome, Served}

-- the count before, and now
pub record Faults : Type 0 where
  pub before : ℕ
  pub now : ℕ

abbrev pub faults_between : ℕ → ℕ → Faults
faults_between before now = record { before = before; now = now }

-- those of an object, before and now
abbrev pub faults_of : {S : Type 0} → SeesFolder S → S → S → Faults
faults_of sees old new = faults_between (sees.fault_count old) (sees.fault_count new)

-- The count never falls. A line that the disk failed tells the count behind it, which rose since
-- the one before the line, or stands at its type's end.
abbrev pub TellsFailure : Faults → Outcome → Type 0
TellsFailure faults Served = faults.before ≤ faults.now
TellsFailure faults (Failed count rotation) =
    Rose faults.before faults.now × (count ≡ faults.now)

-- the count of faults never falls, and rose where the disk's failure is told
abbrev pub HasFailures : ℕ → ℕ → {E : Type 0} → Result (List Reply) E → Type 0
HasFailures before now (Ok replies) =
    (before ≤ now) × RoseBy (unavailable_count (replies ∷ [])) before now
HasFailures before now (Err e) = before ≤ now
