-- Which events of a world the calls of a keeper are, which has a store behind one lock and the
-- sessions of threads before it.
use Rattle.std.specs.Prelude.{◌≡◌, ℕ, zero, suc, ◌+◌, Bool, true, false, ◌&&◌, List, [], ◌∷◌, ◌++◌, length, Some, None, nat_le, if◌then◌else◌}
use Rattle.dv_model.specs.declared.types.Command.{Command}
use Rattle.dv_model.specs.declared.types.Group.{Group}
use Rattle.dv_model.specs.declared.types.Mailbox.{Mailbox}
use Rattle.dv_model.specs.Journals.{Log, at}
use Rattle.dv_model.specs.Sessions.{group_of, is_write, new_session}
use Rattle.dv_model.specs.Transcripts.{refused_at, with_written}
use Rattle.dv_interleavings.specs.Worlds.{World, Session, Event, Open, Write, Sync, Heal, Publish, Load, Tell, all_happen, length_of, with_session}

-- ---- calls

-- how a commit ended
pub data Ending : Type 0 where
  -- its group is durable and published, or it is empty
  Done : Ending
  -- nothing of its group was written: it was refused, memory was wanting, or the disk failed before
  Unwritten : Ending
  -- the disk failed while its group was written
  Failed : Ending

-- A call, with the session and what came of it. A write of a thread is a refresh, a commit, a
-- refresh and an answer; what only reads a session's own view is none of these.
pub data Call : Type 0 where
  -- the sessions from 1 to n are made
  Make : ℕ → Call
  -- one loads all that is published: by itself, at a next table, or in a hold of the lock
  Refresh : ℕ → Call
  -- two load it in one hold of the lock
  Gather : ℕ → ℕ → Call
  -- a write: when an APPEND came, and whether an earlier failed one was taken away first
  Commit : ℕ → Command → ℕ → Bool → Ending → Call
  -- a command is answered
  Answer : ℕ → Command → Call

-- each session from 1 to n opens
abbrev pub opens : ℕ → List Event
opens zero = []
opens (suc n) = Open (suc n) ∷ opens n

-- an earlier failed write is taken away
abbrev pub heals : Bool → List Event
heals true = Heal ∷ []
heals false = []

-- the events of a call, in turn
abbrev pub events_of : Call → List Event
events_of (Make n) = opens n
events_of (Refresh s) = Load s ∷ []
events_of (Gather s t) = Load s ∷ Load t ∷ []
events_of (Commit s c received healed Done) =
    heals healed ++ Write s c received ∷ Sync ∷ Publish ∷ []
events_of (Commit s c received healed Unwritten) = heals healed
events_of (Commit s c received healed Failed) = heals healed ++ Write s c received ∷ []
events_of (Answer s c) = Tell s c ∷ []

-- calls in turn
abbrev pub all_called : World → List Call → World
all_called w [] = w
all_called w (call ∷ calls) = all_called (all_happen w (events_of call)) calls

-- ---- what a commit meets and leaves

-- a write that the rules allow, by a session that has answered its last one, where all of the log
-- is published
pub record MayCommit (w : World) (s : ℕ) (session : Session) (c : Command) (m : Mailbox)
    : Type 0 where
  pub lives : w.sessions s ≡ Some session
  pub answered : session.wrote ≡ None
  pub write : is_write c ≡ true
  pub published : w.published ≡ length_of w
  pub mailbox : at w.log (length_of w) ≡ Some m
  pub allowed : refused_at w.log (length_of w) session.state c m ≡ None

-- the group that it writes
abbrev pub group_met : World → Session → Command → Mailbox → Group
group_met w session c m = group_of c session.state.view m w.log.guid

-- the session has written up to this place, and isn't answered yet
abbrev pub with_write : Session → Command → ℕ → ℕ → Session
with_write session c place met =
    record session { wrote = Some (record { place = place; met = met; command = c }) }

-- the group is the log's last entry, published, and nothing is pending
abbrev pub committed : World → ℕ → Session → Command → ℕ → Mailbox → World
committed w s session c received m =
    with_session (record w {
      log = with_written w.log s c received (group_met w session c m) m;
      pending = None;
      published = length_of w + 1;
    }) s (Some (with_write session c (length_of w + 1) (length_of w)))

-- the group may stand in the log or not, until it is taken away or another is written
abbrev pub left_pending : World → ℕ → Session → Command → ℕ → Mailbox → World
left_pending w s session c received m = record w {
  pending = Some (record {
    author = s;
    command = c;
    group = group_met w session c m;
    received = received;
    running = true;
  });
}

-- ---- the beginning

-- a session that was made over so many published entries
abbrev pub made_session : ℕ → Session
made_session n = record {
  state = record new_session { told = n };
  seen = n;
  wrote = None;
  answers = [];
}

-- the sessions from 1 to n were made, and no other
abbrev pub made : Log → ℕ → World
made log n = record {
  log = log;
  pending = None;
  published = length log.entries;
  sessions = λ s.
      if nat_le 1 s && nat_le s n then Some (made_session (length log.entries)) else None;
}
