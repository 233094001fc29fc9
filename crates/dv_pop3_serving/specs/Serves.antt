-- What a POP3 session over an opened mailbox answers, writes and leaves. The records take what a
-- shelf shows.
use Rattle.std.specs.Prelude.{◌≡◌, ◌⊎◌, ℕ, List, [], length, Result}
use mathlib.Core.List.{IsPrefix}
use Rattle.dv_model.specs.Counts.{RoseBy}
use Rattle.dv_model.specs.Journals.{Log}
use Rattle.dv_interleavings.specs.Promises.{GoesOn}
use Rattle.dv_shelf.specs.Causes.{Stayed}
use Rattle.dv_shelf.specs.Crashes.{IsSettled, LeavesOnly}
use Rattle.dv_shelf.specs.Folders.{Folder}
use Rattle.dv_shelf.specs.Sees.{SeesFolder}
use Rattle.dv_front.specs.declared.notes.Note.{Note}
use Rattle.dv_notes.specs.Logs.{AreNotesOf, log_of}
use Rattle.dv_serving.specs.Faults.{Faults}
use Rattle.dv_serving.specs.NextRuns.{LeavesTrue}
use Rattle.dv_serving.specs.Outputs.{Output}
use Rattle.dv_beginning.specs.Starts.{Starts}
use Rattle.dv_tries.specs.Images.{LeavesSince}
use Rattle.dv_tries.specs.Tries.{MayGive, Try, end_mark}
use Rattle.dv_maildrop.specs.declared.types.PopLine.{PopLine}
use Rattle.dv_member.specs.Members.{Member, notes_of}
use Rattle.dv_keeper.specs.Sessions.{IsNewSession}
use Rattle.dv_pop3.specs.declared.lines.LinesEnd.{LinesEnd}
use Rattle.dv_pop3.specs.declared.entering.PopFault.{PopFault}
use Rattle.dv_pop3.specs.Servings.{HasServed}
use Rattle.dv_threads.specs.Serves.{GivesNotes, MayLeave, OpensFirst}
use Rattle.dv_pop3_serving.specs.declared.ending.PopEnd.{PopEnd}
use Rattle.dv_pop3_serving.specs.declared.ending.PopEnd.TheVariants as ending
use Rattle.dv_pop3_serving.specs.Ends.{end_of}
use Rattle.dv_pop3_serving.specs.Removals.{WritesOnly}

-- ---- what is answered

-- memory ran out before there was a session: nothing was written
pub record NoneBegan (e : PopEnd) (out : Output) (notes : List Note) : Type 0 where
  pub notes_are : notes ≡ []
  pub ends : e ≡ ending.NoMemory
  pub unwritten : out.told → out.taken_now ≡ out.taken

-- The one session served these lines, and so it ends. What it has seen begins the notes, and it
-- wrote all of them: none, or one by its QUIT. The disk has failed no fewer calls than were counted
-- for it.
pub record OneServed (faults : Faults) (start : Log) (lines : List PopLine) (e : PopEnd)
    (out : Output) (notes : List Note) : Type 0 where
  pub first : Member
  pub is_new : IsNewSession start 1 first
  pub last : Member
  pub came : Result LinesEnd PopFault
  pub served : HasServed start faults.before first last lines came out
  pub ends : e ≡ end_of came (end_mark (log_of start notes)) (length notes)
  pub seen : IsPrefix (notes_of last) notes
  pub wrote : last.wrote ≡ length notes
  pub only : WritesOnly start faults.before first last lines out came served (log_of start notes)
  pub few : RoseBy last.refused faults.before faults.now

-- These notes were written, in this order, and the disk failed these tries, which are no more than
-- its count rose by; where it didn't rise there is none.
pub record Answers (faults : Faults) (start : Log) (lines : List PopLine) (e : PopEnd)
    (out : Output) (notes : List Note) (tries : List Try) : Type 0 where
  pub are : AreNotesOf start notes
  pub session : NoneBegan e out notes ⊎ OneServed faults start lines e out notes
  pub tried : RoseBy (length tries) faults.before faults.now
  pub untried : Stayed faults.before faults.now → tries ≡ []

-- ---- what the folder gives

-- What the session did since it was made over a settled store, and what a crash has left since a
-- moment. Where no failure was counted since, the folder is settled.
pub record ServesSession {S : Type 0} (sees : SeesFolder S) (tells : Type 0) (start : Log)
    (moment : ℕ) (past : ℕ → Folder → Type 0) (faults : Faults) (lines : List PopLine)
    (e : PopEnd) (out : Output) (new : S) : Type 0 where
  pub notes : List Note
  pub tries : List Try
  pub answers : Answers faults start lines e out notes tries
  pub gives : GivesNotes sees tells start notes tries new
  pub since : LeavesSince sees moment past new (MayGive tells start notes tries)
  pub settled : Stayed faults.before faults.now → IsSettled sees new

-- The lines of a POP3 session are answered in the mailbox that was found or made. There is one log,
-- which goes on from what the run started from, by at most one entry of the session. Each answer is
-- by what the session has seen of it. The folder gives that log, or that with the group of a last
-- write that the disk failed; so does what a crash behind the run leaves, and a crash during it
-- leaves a front of it, or a front with the group of a write that the disk failed there. A next run
-- may begin from each of these, and from what is left as it is where the count of failures didn't
-- rise, since that is settled then.
pub record ServesPop {S : Type 0} (sees : SeesFolder S) (clock : ℕ → ℕ) (tells : Type 0)
    (faults : Faults) (lines : List PopLine) (e : PopEnd) (out : Output) (old new : S)
    : Type 0 where
  pub start : Log
  pub used : ℕ
  pub starts : Starts clock (sees.files old) start used
  pub notes : List Note
  pub tries : List Try
  pub goes_on : GoesOn start (log_of start notes)
  pub answers : Answers faults start lines e out notes tries
  pub gives : GivesNotes sees tells start notes tries new
  pub crash : LeavesOnly sees old new (MayLeave tells start notes tries (sees.files old))
  pub opens : OpensFirst sees tells start notes tries old new
  pub next : LeavesTrue sees old new
  pub settled : Stayed faults.before faults.now → IsSettled sees new
