-- What a whole run answers, writes and leaves. The records take what a shelf shows.
use Rattle.std.specs.Prelude.{◌≡◌, ◌≢◌, ◌+◌, ◌++◌, ℕ, List, [], ◌∷◌, drop, length, Option, ⊤}
use Rattle.dv_model.specs.declared.types.Reply.{Reply}
use Rattle.dv_model.specs.Journals.{Log}
use Rattle.dv_model.specs.Transcripts as transcripts
use Rattle.dv_model.specs.Transcripts.{Serial}
use Rattle.dv_shelf.specs.declared.shelf.Name.{Name}
use Rattle.dv_shelf.specs.declared.shelf.Name.TheVariants as name
use Rattle.dv_shelf.specs.Causes.{Stayed}
use Rattle.dv_shelf.specs.Clocks.{behind}
use Rattle.dv_shelf.specs.Crashes.{IsSettled, LeavesOnly}
use Rattle.dv_shelf.specs.Folders.{Folder}
use Rattle.dv_shelf.specs.Streams.{Appends, AppendsFront}
use Rattle.dv_formats.specs.Scripts.{NamedLine}
use Rattle.dv_playing.specs.Laws.{MayPlay, RiseFrom, failures_of, lines_of}
use Rattle.dv_playing.specs.Playing.{Attempt, begin, replies_to}
use Rattle.dv_serial.specs.Following.{IsLeft}
use Rattle.dv_serving.specs.NextRuns.{LeavesTrue}
use Rattle.dv_serial.specs.Others.{MayTouch}
use Rattle.dv_serving.specs.Outputs.{Output}
use Rattle.dv_serial.specs.Places.{GivesBehind, MayGive, play_of}
use Rattle.dv_serving.specs.Places.{GivesPlay}
use Rattle.dv_serial.specs.Runs.{IsTried}
use Rattle.dv_serving.specs.Scripts.{numbered, replies_text}
use Rattle.dv_interleavings.specs.Promises.{KeepsNumbers}
use Rattle.dv_clients.specs.Clients.{KnowAlikeWhereTold, line_answers}
use Rattle.dv_beginning.specs.Leaving.{LeavesUnopened, MayLeave}
use Rattle.dv_cli.specs.declared.words.Load.{Load}
use Rattle.dv_cli.specs.declared.ending.End.{End}
use Rattle.dv_cli.specs.declared.ending.End.TheVariants as end
use Rattle.dv_cli.specs.Behind.{loaded_by}
use Rattle.dv_cli.specs.Spans.{Times}
use Rattle.dv_serving.specs.Faults.{Faults}
use Rattle.dv_beginning.specs.Starts.{Starts}
use Rattle.dv_shelf.specs.Sees.{SeesFolder}

-- ---- lines that were answered

-- How a run over lines ends: behind all of them, with the place behind the log, the number of
-- groups, and, where a load was generated, what the mailbox has then; or where memory or the output
-- ended it, at the first of the rest.
abbrev pub EndsAt : Option Load → End → (ℕ → ℕ) → ℕ → Log → List Attempt → List Attempt
    → List transcripts.Line → Type 0
EndsAt load (end.Answered mark groups loaded) clock base start answered left rest =
    (rest ≡ []) × (left ≡ []) × (mark ≡ (play_of clock start answered).mark)
    × (groups ≡ length (play_of clock start answered).log.entries)
    × (loaded ≡ loaded_by load (play_of clock start answered).mailbox)
EndsAt load end.NoMemory clock base start answered left [] = left ≡ []
EndsAt load end.NoMemory clock base start answered left (line ∷ rest) =
    IsLeft clock base (play_of clock start answered) line left
EndsAt load end.Sink clock base start answered left (line ∷ rest) =
    IsLeft clock base (play_of clock start answered) line left
EndsAt load e clock base start answered left rest = ⊥

-- all lines were answered
abbrev pub IsAnswered : End → Type 0
IsAnswered (end.Answered mark groups loaded) = ⊤
IsAnswered e = ⊥

-- the text of the answered lines was written; where the output failed then, a front of the next
-- line's too
abbrev pub WritesLines : End → (ℕ → ℕ) → Log → List Attempt → List Attempt → List NamedLine
    → List ℕ → List ℕ → Type 0
WritesLines end.Sink clock start answered left lines old new =
    (text : List ℕ)
    × IsTried clock start answered left (drop (length answered) lines) text
    × AppendsFront (old ++ replies_text lines (replies_to clock (begin start) answered)) new text
WritesLines e clock start answered left lines old new =
    Appends old new (replies_text lines (replies_to clock (begin start) answered))

-- A crash at a moment until the mailbox was opened or made leaves the folder as it was, where it
-- had none, or the log without an entry; and from then on the log behind some of the lines, or that
-- with the group of the next one, where the disk failed it.
pub record OpensFirst {S : Type 0} (sees : SeesFolder S) (clock : ℕ → ℕ) (start : Log)
    (attempts : List Attempt) (old new : S) : Type 0 where
  pub opened : S
  pub before : LeavesOnly sees old opened (MayLeave clock start [] (sees.files old))
  pub there : (c : Folder) → sees.may_leave opened c → GivesBehind clock start [] c
  pub since : LeavesOnly sees opened new (MayGive clock start attempts)

-- What the clients of the sessions know: two that were told by Full steps up to one place know the
-- same messages, and a number keeps its UID until an EXPUNGE is heard or a SELECT begins.
pub record ClientsKnow (lines : List transcripts.Line) (replies : List (List Reply)) : Type 0 where
  pub alike : (one other : ℕ)
      → KnowAlikeWhereTold (line_answers one lines replies) (line_answers other lines replies)
  pub numbers : (session : ℕ) → KeepsNumbers (line_answers session lines replies)

-- No line was failed by the disk, and what a crash leaves behind the run gives the log behind the
-- lines, with no other group.
pub record NoneFailed {S : Type 0} (sees : SeesFolder S) (clock : ℕ → ℕ) (start : Log)
    (attempts : List Attempt) (new : S) : Type 0 where
  pub failures : failures_of attempts ≡ []
  pub folder : GivesPlay (play_of clock start attempts) (sees.files new)
  pub after : (c : Folder) → sees.may_leave new c → GivesPlay (play_of clock start attempts) c

-- The lines of a script are answered in the mailbox that was found or made. The first ones were, as
-- one play of the session rules says it: their replies are a serial run of the one log that `start`
-- and the written groups make. That log's entries, `(play_of (behind clock used) start (answered ++
-- left)).log.entries`, have the group of each write that was served once, in order, with its
-- session's number. The first of the other lines may have left its group, as the last of them, or
-- be one that the disk failed. All failures, of answered lines and of that one, tell counts that
-- rise from the one before the run up to the one behind it; where the count didn't rise there is
-- none. The folder gives that log, with its messages and a true cache, or
-- that with the group of the last write that the disk failed, behind which none was written; so
-- does what a crash behind the run leaves, and a crash during it leaves a front of it. A file that
-- none of these lines may change is as it was, but for the log, whose end the opening may close. A
-- next run may begin from what is left where the count didn't rise, since that is settled then; and
-- from what a crash leaves, behind the run or during it.
pub record ServesLines {S : Type 0} (sees : SeesFolder S) (times : Times) (faults : Faults)
    (load : Option Load) (lines : List NamedLine) (e : End) (out : Output) (old new : S)
    : Type 0 where
  pub start : Log
  pub used : ℕ
  pub starts : Starts times.clock (sees.files old) start used
  pub answered : List Attempt
  pub left : List Attempt
  pub rest : List transcripts.Line
  pub parts : numbered lines ≡ lines_of answered ++ rest
  pub ends : EndsAt load e (behind times.clock used) faults.before start answered left rest
  pub serial : Serial (play_of (behind times.clock used) start (answered ++ left)).log
      faults.before faults.now (numbered lines)
      (replies_to (behind times.clock used) (begin start) answered)
  pub clients : ClientsKnow (numbered lines)
      (replies_to (behind times.clock used) (begin start) answered)
  pub may : MayPlay (behind times.clock used) start faults.before faults.now answered
  pub failures : RiseFrom faults.before (failures_of (answered ++ left)) faults.now
  pub whole : Stayed faults.before faults.now
      → NoneFailed sees (behind times.clock used) start (answered ++ left) new
  pub output : out.told → WritesLines e (behind times.clock used) start answered left lines
      out.taken out.taken_now
  pub readings : times.told → IsAnswered e → times.clock_now
      ≡ behind times.clock (used + (play_of (behind times.clock used) start answered).used)
  pub others : (n : Name) → n ≢ name.Log
      → (MayTouch (behind times.clock used) start (answered ++ left) n → ⊥)
      → sees.files new n ≡ sees.files old n
  pub folder : GivesBehind (behind times.clock used) start (answered ++ left) (sees.files new)
  pub after : (c : Folder) → sees.may_leave new c
      → GivesBehind (behind times.clock used) start (answered ++ left) c
  pub crash : LeavesOnly sees old new
      (MayLeave (behind times.clock used) start (answered ++ left) (sees.files old))
  pub opens : OpensFirst sees (behind times.clock used) start (answered ++ left) old new
  pub next : LeavesTrue sees old new
  pub settled : Stayed faults.before faults.now → IsSettled sees new

-- ---- both

-- this holds of a run over a folder, unless that isn't opened, and nothing is written then
abbrev pub UnlessUnopened : {S : Type 0} → SeesFolder S → Times → (End → Type 0) → End → Output
    → S → S → Type 0
UnlessUnopened sees times Holds (end.Unopened f) out old new =
    (out.told → out.taken_now ≡ out.taken) × LeavesUnopened sees times.clock f old new
UnlessUnopened sees times Holds e out old new = Holds e

-- the lines of a script are answered, or the folder isn't opened
abbrev pub RunsOver : {S : Type 0} → SeesFolder S → Times → Faults → Option Load → List NamedLine
    → End → Output → S → S → Type 0
RunsOver sees times faults load lines e out old new =
    UnlessUnopened sees times (λ how. ServesLines sees times faults load lines how out old new) e
    out old new
