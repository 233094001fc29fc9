-- A script that a POP3 session is given, with the last line. The records take what a shelf shows.
use Rattle.std.specs.Prelude.{◌≡◌, ◌⊎◌, ℕ, List, None, ⊤}
use Rattle.dv_model.specs.declared.types.OpenFault.{OpenFault}
use Rattle.dv_model.specs.declared.types.OpenFault.TheVariants as open_fault
use Rattle.dv_model.specs.Counts.{Rose}
use Rattle.dv_shelf.specs.Sees.{SeesFolder}
use Rattle.dv_maildrop.specs.declared.types.PopLine.{PopLine}
use Rattle.dv_serving.specs.Faults.{Faults}
use Rattle.dv_serving.specs.Outputs.{Output}
use Rattle.dv_beginning.specs.Leaving.{LeavesUnopened}
use Rattle.dv_pop3_serving.specs.Serves.{ServesPop}
use Rattle.dv_pop3_serving.specs.declared.ending.PopEnd.{PopEnd}
use Rattle.dv_pop3_serving.specs.declared.ending.PopEnd.TheVariants as ending
use Rattle.dv_cli.specs.Causes.{ComesFrom, Counts}
use Rattle.dv_cli.specs.Endings.{Concludes, IsStatus}
use Rattle.dv_cli.specs.Spans.{Times}
use Rattle.dv_cli.specs.Wholes.{IsUnread, shelf_faults}
use Rattle.dv_cli.specs.declared.ending.End.{End}
use Rattle.dv_cli.specs.declared.ending.End.TheVariants as end

-- How the run ends, by how the session does, and how often the folder's calls have failed then: a
-- disk that failed before the greeting ends it as one does that fails where the folder is opened.
abbrev pub pop_end : ℕ → PopEnd → End
pop_end count (ending.Answered mark groups) = end.Answered mark groups None
pop_end count ending.NoMemory = end.NoMemory
pop_end count (ending.Sink faults) = end.Sink
pop_end count (ending.Disk faults) = end.Unopened (open_fault.Disk count)

-- a disk that failed before the greeting has a count that rose
abbrev pub IsDiskCaused : ℕ → ℕ → PopEnd → Type 0
IsDiskCaused before now (ending.Disk faults) = Rose before now
IsDiskCaused before now e = ⊤

-- The folder isn't opened, and nothing is written.
pub record EndsUnopened {S : Type 0} (sees : SeesFolder S) (times : Times) (e : End) (out : Output)
    (old new : S) : Type 0 where
  pub why : OpenFault
  pub is : e ≡ end.Unopened why
  pub unwritten : out.told → out.taken_now ≡ out.taken
  pub leaves : LeavesUnopened sees times.clock why old new

-- The lines were given to a POP3 session in the mailbox that was found or made: over one log, which
-- goes on by at most one entry, the removal of messages that the session had listed and marked.
pub record ServesMaildrop {S : Type 0} (sees : SeesFolder S) (times : Times) (faults : Faults)
    (lines : List PopLine) (e : End) (out : Output) (old new : S) : Type 0 where
  pub how : PopEnd
  pub is : e ≡ pop_end faults.now how
  pub serves : ServesPop sees times.clock times.told faults lines how out old new

-- one of both
abbrev pub RunsMaildrop : {S : Type 0} → SeesFolder S → Times → Faults → List PopLine → End → Output
    → S → S → Type 0
RunsMaildrop sees times faults lines e out old new =
    EndsUnopened sees times e out old new ⊎ ServesMaildrop sees times faults lines e out old new

-- the script couldn't be read after all, and the folder is untouched; or its lines were given so
abbrev pub RunsPop3 : {S : Type 0} → SeesFolder S → Times → Faults → List PopLine → End → Output
    → S → S → Type 0
RunsPop3 sees times faults lines e out old new =
    IsUnread e out.taken out.taken_now old new ⊎ RunsMaildrop sees times faults lines e out old new

-- A run by a POP3 session, behind which the last line was written.
pub record IsPop3Run {S : Type 0} (sees : SeesFolder S) (times : Times) (before now : Counts)
    (lines : List PopLine) (status : ℕ) (out : Output) (old new : S) : Type 0 where
  pub how : End
  pub between : List ℕ
  pub runs : RunsPop3 sees times (shelf_faults before now) lines how
      (record out { taken_now = between }) old new
  pub cause : ComesFrom before now how
  pub ended : IsStatus how status
  pub concludes : out.told → Concludes how status between out.taken_now
