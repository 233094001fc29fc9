-- What a script that sessions in threads serve answers, writes and leaves. The records take what a
-- shelf shows.
use Rattle.std.specs.Prelude.{◌≡◌, ◌⊎◌, ◌≤◌, ◌<◌, ℕ, List, [], length, replicate, ⊤}
use Rattle.std.specs.List.{sum_by}
use Rattle.dv_model.specs.declared.types.Reply.{Reply}
use Rattle.dv_model.specs.Counts.{RoseBy}
use Rattle.dv_model.specs.Journals.{Log}
use Rattle.dv_model.specs.Transcripts.{unavailable_count}
use Rattle.dv_interleavings.specs.Promises.{GoesOn}
use Rattle.dv_shelf.specs.Causes.{Stayed}
use Rattle.dv_shelf.specs.Crashes.{IsSettled, LeavesOnly}
use Rattle.dv_shelf.specs.Folders.{Folder, IsNew}
use Rattle.dv_shelf.specs.Sees.{SeesFolder}
use Rattle.dv_shelf.specs.Streams.{Appends, AppendsFront}
use Rattle.dv_formats.specs.Scripts.{NamedLine, sessions_of}
use Rattle.dv_front.specs.declared.notes.Note.{Note}
use Rattle.dv_notes.specs.Logs.{AreNotesOf, log_of}
use Rattle.dv_serving.specs.Faults.{Faults}
use Rattle.dv_serving.specs.NextRuns.{LeavesTrue}
use Rattle.dv_serving.specs.Outputs.{Output}
use Rattle.dv_parts.specs.Texts.{transcripts_text}
use Rattle.dv_beginning.specs.Starts.{Starts}
use Rattle.dv_tries.specs.Durable.{IsDurable}
use Rattle.dv_tries.specs.Images.{LeavesSince}
use Rattle.dv_tries.specs.Tries.{GivesLast, GivesLog, MayGive, Try, end_mark}
use Rattle.dv_threads.specs.declared.ending.ThreadsEnd.{ThreadsEnd}
use Rattle.dv_threads.specs.declared.ending.ThreadsEnd.TheVariants as ending
use Rattle.dv_threads.specs.Scripts.{asked, session_count, told_to}
use Rattle.dv_threads.specs.Transcripts.{AreTranscripts}

-- ---- the end

-- every command of each session was answered
abbrev pub AreAnswered : List NamedLine → List (List (List Reply)) → Type 0
AreAnswered lines replies = (i : ℕ) → 1 ≤ i → i ≤ session_count lines
    → length (told_to replies i) ≡ length (asked lines i)

-- those of some session weren't
pub record IsShort (lines : List NamedLine) (replies : List (List (List Reply))) : Type 0 where
  pub session : ℕ
  pub low : 1 ≤ session
  pub high : session ≤ session_count lines
  pub short : length (told_to replies session) < length (asked lines session)

-- memory ran out before the first command
pub record NoneBegan (log : Log) (lines : List NamedLine) (replies : List (List (List Reply)))
    : Type 0 where
  pub log_is : log.entries ≡ []
  pub replies_are : replies ≡ replicate (session_count lines) []

-- How it ends: behind all commands, with the place behind the log and the number of groups; or
-- memory ran out, at a command of some session, or before all of them; or the output failed, which
-- is told also where memory ran out. In each case all threads were joined.
abbrev pub EndsWith : ThreadsEnd → Log → List NamedLine → List (List (List Reply)) → Type 0
EndsWith (ending.Answered mark groups) log lines replies =
    AreAnswered lines replies × (mark ≡ end_mark log) × (groups ≡ length log.entries)
EndsWith ending.NoMemory log lines replies = IsShort lines replies ⊎ NoneBegan log lines replies
EndsWith (ending.Sink faults) log lines replies = ⊤

-- the bytes written: the text of the transcripts, session by session in the order of their numbers,
-- also where one is short, which ends with its last whole answer; where the output failed, a front
abbrev pub WritesReplies : ThreadsEnd → List NamedLine → List (List (List Reply)) → List ℕ → List ℕ
    → Type 0
WritesReplies (ending.Sink faults) lines replies old new =
    AppendsFront old new (transcripts_text (sessions_of lines) replies)
WritesReplies e lines replies old new =
    Appends old new (transcripts_text (sessions_of lines) replies)

-- ---- what is answered

-- The sessions wrote these notes, in this order, and the disk failed these tries. Each session's
-- replies are its transcript over the log of the notes. The disk's failures answered no more
-- commands than its count rose by, and there are no more tries; where it didn't rise there is none.
pub record Answers (faults : Faults) (start : Log) (lines : List NamedLine) (e : ThreadsEnd)
    (out : Output) (notes : List Note) (tries : List Try) : Type 0 where
  pub are : AreNotesOf start notes
  pub replies : List (List (List Reply))
  pub count : length replies ≡ session_count lines
  pub transcripts : AreTranscripts (log_of start notes) faults.before (session_count lines)
      (asked lines) (told_to replies)
  pub few : RoseBy (sum_by unavailable_count replies) faults.before faults.now
  pub tried : RoseBy (length tries) faults.before faults.now
  pub untried : Stayed faults.before faults.now → tries ≡ []
  pub ends : EndsWith e (log_of start notes) lines replies
  pub output : out.told → WritesReplies e lines replies out.taken out.taken_now

-- ---- what the folder gives

-- It gives the log of the notes, or that with the group of a try behind which none was written; so
-- does what a crash leaves then, with each note, its message and its GUID.
pub record GivesNotes {S : Type 0} (sees : SeesFolder S) (tells : Type 0) (start : Log)
    (notes : List Note) (tries : List Try) (new : S) : Type 0 where
  pub folder : GivesLast tells start notes tries (sees.files new)
  pub after : (c : Folder) → sees.may_leave new c → GivesLast tells start notes tries c
  pub durable : (c : Folder) → sees.may_leave new c → IsDurable start notes c

-- What sessions did since they were made over a settled store, and what a crash has left since a
-- moment. Where no failure was counted since, the folder is settled.
pub record ServesSessions {S : Type 0} (sees : SeesFolder S) (tells : Type 0) (start : Log)
    (moment : ℕ) (past : ℕ → Folder → Type 0) (faults : Faults) (lines : List NamedLine)
    (e : ThreadsEnd) (out : Output) (new : S) : Type 0 where
  pub notes : List Note
  pub tries : List Try
  pub answers : Answers faults start lines e out notes tries
  pub gives : GivesNotes sees tells start notes tries new
  pub since : LeavesSince sees moment past new (MayGive tells start notes tries)
  pub settled : Stayed faults.before faults.now → IsSettled sees new

-- ---- a run

-- What a crash during a run may leave: the folder as it was, where it had no mailbox; or the log of
-- a front of the notes, or that with the group of a try.
abbrev pub MayLeave : Type 0 → Log → List Note → List Try → Folder → Folder → Type 0
MayLeave tells start notes tries old c =
    (IsNew old × (c ≡ old)) ⊎ MayGive tells start notes tries c

-- a crash at a moment until the mailbox was opened or made leaves the folder as it was, where it
-- had none, or the start; and from then on it leaves no folder without a mailbox
pub record OpensFirst {S : Type 0} (sees : SeesFolder S) (tells : Type 0) (start : Log)
    (notes : List Note) (tries : List Try) (old new : S) : Type 0 where
  pub opened : S
  pub before : LeavesOnly sees old opened (MayLeave tells start [] [] (sees.files old))
  pub there : (c : Folder) → sees.may_leave opened c → GivesLog start c
  pub since : LeavesOnly sees opened new (MayGive tells start notes tries)

-- The lines of a script are answered by sessions in threads, in the mailbox that was found or made.
-- There is one log, which goes on from what the run started from, and has each write that was
-- answered with a mark once. Each session's replies are the session rules' answers over fronts of
-- it, never shorter than what the session had seen; two sessions at one place show equal mailboxes,
-- and a number keeps its UID; and there is an order of the sessions' steps that is an interleaving
-- with this log. The folder gives that log, or that with the group of a last write that the disk
-- failed; so does what a crash behind the run leaves, and a crash during it leaves a front of it,
-- or a front with the group of a write that the disk failed there. A next run may begin from each of
-- these, and from what is left as it is where the count of failures didn't rise, since that is
-- settled then.
pub record ServesThreads {S : Type 0} (sees : SeesFolder S) (clock : ℕ → ℕ) (tells : Type 0)
    (faults : Faults) (lines : List NamedLine) (e : ThreadsEnd) (out : Output) (old new : S)
    : Type 0 where
  pub start : Log
  pub used : ℕ
  pub starts : Starts clock (sees.files old) start used
  pub notes : List Note
  pub tries : List Try
  pub goes_on : GoesOn start (log_of start notes)
  pub answers : Answers faults start lines e out notes tries
  pub gives : GivesNotes sees tells start notes tries new
  pub crash : LeavesOnly sees old new (MayLeave tells start notes tries (sees.files old))
  pub opens : OpensFirst sees tells start notes tries old new
  pub next : LeavesTrue sees old new
  pub settled : Stayed faults.before faults.now → IsSettled sees new
