-- When a keeper is at a world of interleavings, and which calls lead from one of them to another.
use Rattle.std.specs.Prelude.{◌≡◌, ◌≢◌, ℕ, ◌+◌, Bool, true, false, List, ◌∷◌, ◌++◌, length, All, Any, IfSome, Option, Some, None}
use mathlib.Core.List.{IsPrefix}
use Rattle.dv_model.specs.declared.types.Command.{Command}
use Rattle.dv_model.specs.declared.types.Mailbox.{Mailbox}
use Rattle.dv_model.specs.declared.types.Reply.{Reply}
use Rattle.dv_model.specs.Journals.{IsU32, Log, at}
use Rattle.dv_model.specs.Sessions.{group_of}
use Rattle.dv_interleavings.specs.Promises.{Holds}
use Rattle.dv_interleavings.specs.Worlds.{World, Session, Pending, Wrote}
use Rattle.dv_promises.specs.Standing.{Stands}
use Rattle.dv_schedules.specs.Calls.{Call, all_called}
use Rattle.dv_front.specs.declared.notes.Note.{Note}
use Rattle.dv_notes.specs.Logs.{AreNotesOf, log_of}
use Rattle.dv_tries.specs.Tries.{Try}
use Rattle.dv_member.specs.Members.{Member, notes_of}
use Rattle.dv_shared.specs.Kept.{Kept, notes_in}

-- ---- a keeper between its calls

-- what became of writes: the notes that were published, and the tries that the disk failed
pub record History : Type 0 where
  pub notes : List Note
  pub tries : List Try

-- that of what is kept under the lock
abbrev pub history_of : {S C : Type 0} → Kept S C → History
history_of k = record { notes = notes_in k; tries = k.tries }

-- a session, and the commands that it was answered, each with its replies; refusals are left out
pub record Conversation : Type 0 where
  pub session : Member
  pub answers : List (Command × List Reply)

-- ---- in a world

-- A session has answered what it wrote; or memory ran out behind its entry, which is the last one
-- that it has seen.
abbrev pub IsUnanswered : Bool → ℕ → Option Wrote → Type 0
IsUnanswered false seen wrote = wrote ≡ None
IsUnanswered true seen wrote =
    (write : Wrote) × (wrote ≡ Some write) × (write.place ≡ seen) × (write.place ≡ write.met + 1)

-- A session is one of the world: what it has seen begins the notes, it has loaded as many entries
-- there, and it has its state and its answers.
pub record IsIn (notes : List Note) (w : World) (x : Conversation) : Type 0 where
  pub number : IsU32 x.session.number
  pub begins : IsPrefix (notes_of x.session) notes
  pub session : Session
  pub lives : w.sessions x.session.number ≡ Some session
  pub state : session.state ≡ x.session.follower.state
  pub seen : session.seen ≡ x.session.seen
  pub answers : session.answers ≡ x.answers
  pub wrote : IsUnanswered x.session.spent session.seen session.wrote

-- a pending entry is the group of a try that met all notes
pub record IsOfTry (start : Log) (notes : List Note) (p : Pending) (t : Try) : Type 0 where
  pub place : t.place ≡ length notes
  pub author : p.author ≡ t.author
  pub command : p.command ≡ t.command
  pub met : Mailbox
  pub was_there : at (log_of start notes) (length notes) ≡ Some met
  pub group : p.group ≡ group_of t.command t.view met (log_of start notes).guid

-- The keeper is at the world, in which all stands that events keep: its log is the start with the
-- notes, which are good and published, a pending entry is that of a try, and the sessions are its.
pub record IsAtWorld (start : Log) (h : History) (all : List Conversation) (w : World)
    : Type 0 where
  pub stands : Stands w
  pub notes_are : AreNotesOf start h.notes
  pub log : w.log ≡ log_of start h.notes
  pub published : w.published ≡ length h.notes
  pub pending : IfSome w.pending (λ p. Any (IsOfTry start h.notes p) h.tries)
  pub sessions : All (IsIn h.notes w) all

-- ---- from world to world

-- these sessions have other numbers
abbrev pub AreOthers : Member → List Conversation → Type 0
AreOthers s rest = All (λ x. x.session.number ≢ s.number) rest

-- Beside any other sessions, the events of these calls lead from each world that the keeper is at
-- to one that it is at then: with its history and this session as they are then, and more answers
-- of the session. The others are as before.
abbrev pub CallsLead : Log → List Call → History → History → Member → Member
    → List (Command × List Reply) → Type 0
CallsLead start calls before behind old new more =
    (w : World) (answers : List (Command × List Reply)) (rest : List Conversation)
    → AreOthers old rest
    → IsAtWorld start before (record { session = old; answers = answers } ∷ rest) w
    → IsAtWorld start behind (record { session = new; answers = answers ++ more } ∷ rest)
    (all_called w calls)

-- ---- what holds there

-- all that is promised of interleavings holds of a world that a keeper is at
abbrev pub PromisesHold : Type 0
PromisesHold = (start : Log) (h : History) (all : List Conversation) (w : World)
    → IsAtWorld start h all w → Holds w
