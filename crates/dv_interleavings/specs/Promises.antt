-- What holds in each world that events lead to.
use Rattle.std.specs.Prelude.{◌≡◌, ◌≢◌, ◌⊎◌, ℕ, ◌<◌, ◌≤◌, Bool, true, false, not, List, [], ◌∷◌, ◌++◌, length, map, flat_map, filter, fold, reverse, Option, Some, None, slice_get, All, Contains, IfSome}
use Rattle.std.specs.List.{list_all, list_any}
use Rattle.dv_model.specs.declared.types.Command.{Command}
use Rattle.dv_model.specs.declared.types.Command.TheVariants as command
use Rattle.dv_model.specs.declared.types.Entry.{Entry}
use Rattle.dv_model.specs.declared.types.Mailbox.{Mailbox}
use Rattle.dv_model.specs.declared.types.Reply.{Reply}
use Rattle.dv_model.specs.declared.types.Reply.TheVariants as reply
use Rattle.dv_model.specs.declared.types.Step.{Step}
use Rattle.dv_model.specs.declared.types.Step.TheVariants.{Full}
use Rattle.dv_model.specs.Journals.{Log, IsSound, at}
use Rattle.dv_model.specs.Sessions.{step_of}
use Rattle.dv_model.specs.Transcripts.{Spoken, SpokenUntilCrash}
use Rattle.dv_model.specs.Views.{Known, all_heard, heard, known_of, shown}
use Rattle.dv_interleavings.specs.Worlds.{World, Session, Pending, Wrote, Crash, happens, length_of}

-- ---- each session

-- the commands that it sent: those answered, and one that wrote and isn't answered yet
abbrev pub sent_of : Option Wrote → List Command
sent_of None = []
sent_of (Some wrote) = wrote.command ∷ []

-- all commands that it sent
abbrev pub commands_of : Session → List Command
commands_of session = map (λ a. a.0) session.answers ++ sent_of session.wrote

-- the replies of those that were answered
abbrev pub replies_of : Session → List (List Reply)
replies_of session = map (λ a. a.1) session.answers

-- its replies and its state are the session rules' answers over the log
pub record IsSpoken (w : World) (s : ℕ) (session : Session) : Type 0 where
  pub spoken : Spoken w.log 0 s (commands_of session) (replies_of session)
  pub state : spoken.speaks.state ≡ session.state

-- a session is told of no more than it has seen, sees no more than was published, and no more is
-- published than is durable
pub record AreInOrder (w : World) (session : Session) : Type 0 where
  pub told : session.state.told ≤ session.seen
  pub seen : session.seen ≤ w.published
  pub published : w.published ≤ length_of w

-- the step of the command that was answered last
abbrev pub last_step : Session → Option Step
last_step session = by_last (reverse session.answers)
  where
    by_last : List (Command × List Reply) → Option Step
    by_last [] = None
    by_last (a ∷ answers) = Some (step_of a.0)

-- two sessions that were both told by Full steps up to one position show equal mailboxes
abbrev pub AreEqualWhereTold : Session → Session → Type 0
AreEqualWhereTold one other = last_step one ≡ Some Full → last_step other ≡ Some Full
    → one.state.told ≡ other.state.told → one.state.view ≡ other.state.view

-- the view has each row of the mailbox up to which the session was told as it is shown, and a
-- client that listened has the view
pub record IsShown (w : World) (session : Session) : Type 0 where
  pub mailbox : Mailbox
  pub is : at w.log session.state.told ≡ Some mailbox
  pub rows : All (λ row. Contains session.state.view.rows (shown row)) mailbox.rows
  pub client : all_heard [] (flat_map (λ a. a.1) session.answers)
      ≡ known_of mailbox session.state.view

-- ---- message numbers

-- what comes to a client in turn: it sends SELECT, or hears a reply
pub data Heard : Type 0 where
  Selects : Heard
  Hears : Reply → Heard

-- what comes of one command
abbrev pub heard_of : Command × List Reply → List Heard
heard_of (command.Select, replies) = Selects ∷ map Hears replies
heard_of (c, replies) = map Hears replies

-- SELECT begins with no messages (RFC 3501, section 6.3.1)
abbrev pub knows : List Known → Heard → List Known
knows rows Selects = []
knows rows (Hears reply) = heard rows reply

-- what a client knows behind these
abbrev pub all_known : List Heard → List Known
all_known heard = fold knows [] heard

-- neither a SELECT nor an EXPUNGE reply
abbrev pub keeps_numbers : Heard → Bool
keeps_numbers Selects = false
keeps_numbers (Hears (reply.Expunge k)) = false
keeps_numbers (Hears r) = true

-- from any moment on each message number keeps its UID until an EXPUNGE is heard or a SELECT begins
-- (RFC 3501, section 7.4.1)
abbrev pub KeepsNumbers : List (Command × List Reply) → Type 0
KeepsNumbers answers = (before between behind : List Heard)
    → flat_map heard_of answers ≡ before ++ between ++ behind
    → list_all keeps_numbers between ≡ true
    → (k : ℕ) (row : Known) → slice_get (all_known before) k ≡ Some row → row.uid ≢ 0
    → (after : Known)
    × (slice_get (all_known (before ++ between)) k ≡ Some after) × (after.uid ≡ row.uid)

-- for a session's client
abbrev pub NumbersStay : Session → Type 0
NumbersStay session = KeepsNumbers session.answers

-- ---- the world

-- what holds of one session
pub record HoldsOf (w : World) (s : ℕ) (session : Session) : Type 0 where
  pub spoken : IsSpoken w s session
  pub order : AreInOrder w session
  pub shown : session.state.selected ≡ true → IsShown w session
  pub numbers : NumbersStay session

-- what each event keeps
pub record Holds (w : World) : Type 0 where
  pub sound : IsSound w.log
  pub each : (s : ℕ) → IfSome (w.sessions s) (HoldsOf w s)
  pub equal : (s t : ℕ)
      → IfSome (w.sessions s) (λ one. IfSome (w.sessions t) (λ other. AreEqualWhereTold one other))

-- ---- from one world to the next

-- More entries may follow. The beginning stays, and so do the mailboxes before and the messages and
-- GUIDs of UIDs that were given out.
pub record GoesOn (log later : Log) : Type 0 where
  pub start : (later.start ≡ log.start) × (later.start_mark ≡ log.start_mark)
  pub files : (later.rotates ≡ log.rotates) × (later.indexid ≡ log.indexid)
  pub more : List Entry
  pub entries : later.entries ≡ log.entries ++ more
  pub mailboxes : (k : ℕ) → k ≤ length log.entries → at later k ≡ at log k
  pub messages : (k uid : ℕ) (m : Mailbox)
      → k ≤ length log.entries → at log k ≡ Some m → uid < m.next_uid
      → (later.mail uid ≡ log.mail uid) × (later.guid uid ≡ log.guid uid)

-- ---- a crash

-- a line that leaves the session as it was, and stands in no world
abbrev pub is_refusal : Reply → Bool
is_refusal reply.NotSelected = true
is_refusal (reply.NoMessage n) = true
is_refusal reply.UidsUsedUp = true
is_refusal (reply.TooLong n) = true
is_refusal (reply.Unavailable n) = true
is_refusal r = false

-- the command was answered by such a line
abbrev pub was_refused : Command × List Reply → Bool
was_refused (c, replies) = list_any is_refusal replies

-- with some refused commands among those that were answered, and perhaps one that wasn't answered,
-- the replies are the rules' answers
pub record IsSpokenAfterCrash (log : Log) (s : ℕ) (session : Session) : Type 0 where
  pub answers : List (Command × List Reply)
  pub unanswered : List Command
  pub kept : filter (λ a. not (was_refused a)) answers ≡ session.answers
  pub spoken : SpokenUntilCrash log 0 s
      (map (λ a. a.0) answers ++ unanswered) (map (λ a. a.1) answers)

-- the entry whose gate was written
abbrev pub pending_entries : Option Pending → List Entry
pending_entries None = []
pending_entries (Some p) = record { author = p.author; group = p.group } ∷ []

-- it keeps each durable entry and at most the pending one, and the replies of each session that
-- lived until it stay the rules' answers
pub record CrashKeeps (w : World) (n : ℕ) : Type 0 where
  pub entries : ((happens w (Crash n)).log.entries ≡ w.log.entries)
      ⊎ ((happens w (Crash n)).log.entries ≡ w.log.entries ++ pending_entries w.pending)
  pub goes_on : GoesOn w.log (happens w (Crash n)).log
  pub replies : (s : ℕ) → IfSome (w.sessions s) (IsSpokenAfterCrash (happens w (Crash n)).log s)
