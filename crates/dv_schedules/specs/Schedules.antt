-- The transcripts of all sessions of a log are those of an interleaving.
use Rattle.std.specs.Prelude.{◌≡◌, ℕ, ◌+◌, ◌≤◌, not, List, [], ◌∷◌, drop, filter, length, All, Option, Some, None}
use Rattle.dv_model.specs.declared.types.Command.{Command}
use Rattle.dv_model.specs.declared.types.Reply.{Reply}
use Rattle.dv_model.specs.Journals.{Log, IsU32}
use Rattle.dv_model.specs.Sessions.{IsCommand}
use Rattle.dv_model.specs.Transcripts.{Line, Serial, commands_of, replies_of}
use Rattle.dv_interleavings.specs.Promises.{Holds, was_refused}
use Rattle.dv_interleavings.specs.Worlds.{World, Session, Wrote}
use Rattle.dv_promises.specs.Standing.{Stands}
use Rattle.dv_clients.specs.Clients.{answers_of}
use Rattle.dv_stories.specs.Stories.{AreAll, Progress}
use Rattle.dv_schedules.specs.Calls.{Call, Commit, all_called, made}

-- ---- good calls

-- a session's number has 32 bits, and a command that is written is one of its type
abbrev pub IsGoodCall : Call → Type 0
IsGoodCall (Commit s c received healed ending) = IsU32 s × IsCommand c
IsGoodCall call = Unit {0}

-- in a world that stands, what stands is kept by good calls, and with it the promises to sessions
abbrev pub GoodCallsKeep : Type 0
GoodCallsKeep = (w : World) (calls : List Call)
    → Stands w → All IsGoodCall calls → Stands (all_called w calls) × Holds (all_called w calls)

-- ---- the world of some transcripts

-- the log as it began; the messages that will be appended have UIDs that nobody reads before
abbrev pub begun : Log → Log
begun log = record log { entries = [] }

-- the answers of a transcript, without the refused commands, which are no steps of a world
abbrev pub told_answers : List Command → List (List Reply) → List (Command × List Reply)
told_answers commands replies = filter (λ a. not (was_refused a)) (answers_of commands replies)

-- the write that was left: its entry stands behind the first k, and it is the next command
abbrev pub write_left : Option ℕ → List Command → Option Wrote
write_left (Some k) (c ∷ rest) = Some (record { place = k + 1; met = k; command = c })
write_left left rest = None

-- a session of a world that is that of a transcript, and its last write where that isn't answered
pub record IsSessionOf (commands : List Command) (replies : List (List Reply)) (p : Progress)
    (session : Session) : Type 0 where
  pub state : session.state ≡ p.state
  pub answers : session.answers ≡ told_answers commands replies
  pub wrote : session.wrote ≡ write_left p.left (drop (length replies) commands)

-- Some calls of n sessions, in some order, lead from the log as it began to a world with this very
-- log, in which each session has the state and the answers of its transcript.
pub record AreInterleaved (log : Log) (n : ℕ) (commands : ℕ → List Command)
    (replies : ℕ → List (List Reply)) (p : ℕ → Progress) : Type 0 where
  pub calls : List Call
  pub good : All IsGoodCall calls
  pub log_is : (all_called (made (begun log) n) calls).log ≡ log
  pub sessions : (i : ℕ) → 1 ≤ i → i ≤ n → (session : Session)
      × ((all_called (made (begun log) n) calls).sessions i ≡ Some session)
      × IsSessionOf (commands i) (replies i) (p i) session
  -- so all that is promised of interleavings holds of it
  pub holds : Holds (all_called (made (begun log) n) calls)

-- the stories of all sessions of a log, whose counts make up the log, are an interleaving
abbrev pub StoriesAreInterleaved : Type 0
StoriesAreInterleaved = (log : Log) (base n : ℕ) (commands : ℕ → List Command)
    (replies : ℕ → List (List Reply)) (p : ℕ → Progress)
    → IsU32 n → ((i : ℕ) → All IsCommand (commands i))
    → AreAll log base n commands replies p → AreInterleaved log n commands replies p

-- ---- one command after another

-- the transcripts of a script's sessions are an interleaving
pub record AreLinesInterleaved (log : Log) (n : ℕ) (lines : List Line)
    (replies : List (List Reply)) : Type 0 where
  pub progress : ℕ → Progress
  pub are : AreInterleaved log n (λ i. commands_of i lines) (λ i. replies_of i lines replies)
      progress

-- so are those of lines that are answered one after another, by sessions from 1 to n
abbrev pub SerialIsInterleaved : Type 0
SerialIsInterleaved = (log : Log) (base faults n : ℕ) (lines : List Line)
    (replies : List (List Reply))
    → IsU32 n → All (λ line. (1 ≤ line.0) × (line.0 ≤ n)) lines
    → All (λ line. IsCommand line.1) lines
    → Serial log base faults lines replies → AreLinesInterleaved log n lines replies
