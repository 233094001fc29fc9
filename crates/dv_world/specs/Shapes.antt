-- How a world of interleavings is kept.
use Rattle.std.specs.Prelude.{ℕ, true, List, [], map, find, Option, Some, None, option_map, nat_eq}
use Rattle.dv_model.specs.declared.types.Entry.{Entry}
use Rattle.dv_model.specs.declared.types.Mailbox.{Mailbox}
use Rattle.dv_model.specs.declared.types.Mark.{Mark}
use Rattle.dv_model.specs.Journals.{Log, Mail, Held, Damaged}
use Rattle.dv_model.specs.Sessions.{State, IsCommand}
use Rattle.dv_interleavings.specs.Worlds.{World, Session, Pending, Wrote, Stored, mail_of, guid_of}
use Rattle.dv_interleavings.specs.Worlds as happening
use Rattle.dv_responses.specs.Depth.{IsShallow}
use Rattle.dv_world.specs.declared.event.Event.{Event}
use Rattle.dv_world.specs.declared.event.Event.TheVariants as event
use Rattle.dv_world.specs.declared.kept.Kept.{Kept}
use Rattle.dv_world.specs.declared.kept.Pending.{Pending as KeptPending}
use Rattle.dv_world.specs.declared.kept.Seat.{Seat}
use Rattle.dv_world.specs.declared.kept.Wrote.{Wrote as KeptWrote}

-- ---- events

-- what happens by an event
abbrev pub event_of : Event → happening.Event
event_of (event.Open s) = happening.Open s
event_of (event.Write s c received) = happening.Write s c received
event_of event.Sync = happening.Sync
event_of event.Heal = happening.Heal
event_of event.Publish = happening.Publish
event_of (event.Load s) = happening.Load s
event_of (event.Tell s c) = happening.Tell s c
event_of (event.Crash n) = happening.Crash n

-- a command that is written has names as its keywords (RFC 3501, section 9, atom), and one that is answered has a key
-- that nests no deeper than its grammar lets it
abbrev pub IsPlayable : Event → Type 0
IsPlayable (event.Write s c received) = IsCommand c
IsPlayable (event.Tell s c) = IsShallow c
IsPlayable e = Unit {0}

-- ---- a world in lists

-- what contracts see of a world: the start, the messages, the entries, and the live sessions with their numbers
pub record Plain : Type 0 where
  pub start : Mailbox
  pub start_mark : Mark
  pub indexid : ℕ
  pub stored : List Stored
  pub entries : List Entry
  pub pending : Option Pending
  pub published : ℕ
  pub sessions : List (ℕ × Session)

-- its log, whose long files are rotated
abbrev pub log_of : Plain → Log
log_of p = record {
  start = p.start;
  start_mark = p.start_mark;
  rotates = true;
  entries = p.entries;
  indexid = p.indexid;
  mail = mail_of p.stored;
  guid = guid_of p.stored;
}

-- the session of a number
abbrev pub session_at : List (ℕ × Session) → ℕ → Option Session
session_at sessions s = option_map (λ one. one.1) (find (λ one. nat_eq one.0 s) sessions)

-- the world
abbrev pub world_of : Plain → World
world_of p = record {
  log = log_of p;
  pending = p.pending;
  published = p.published;
  sessions = session_at p.sessions;
}

-- the bytes of a message that is there
abbrev pub held_in : Mail → Option (List ℕ)
held_in (Held message) = Some message
held_in Damaged = None

-- ---- what is kept

abbrev pub stored_of : ℕ × Option (List ℕ) × List ℕ → Stored
stored_of s = record { uid = s.0; message = s.1; guid = s.2 }

abbrev pub wrote_of : KeptWrote → Wrote
wrote_of w = record { place = w.place; met = w.met; command = w.command }

abbrev pub pending_of : KeptPending → Pending
pending_of p = record { author = p.author; command = p.command; group = p.group; received = p.received; running = p.running }

-- the rules' state of a session, which was told of so many entries also where it hasn't selected
abbrev pub state_of : Seat → State
state_of seat = record { selected = seat.session.state.selected; view = seat.session.state.view; told = seat.told }

abbrev pub session_of : Seat → Session
session_of seat = record {
  state = state_of seat;
  seen = seat.seen;
  wrote = option_map wrote_of seat.wrote;
  answers = seat.answers.items;
}

abbrev pub seated : Seat → ℕ × Session
seated seat = (seat.number, session_of seat)

-- what is seen of it
abbrev pub plain_of : Kept → Plain
plain_of k = record {
  start = k.start;
  start_mark = k.start_mark;
  indexid = k.indexid;
  stored = map stored_of k.stored.items;
  entries = map (λ l. l.entry) k.logged.items;
  pending = option_map pending_of k.pending;
  published = k.published;
  sessions = map seated k.seats.items;
}

-- the world that is kept
abbrev pub kept_world : Kept → World
kept_world k = world_of (plain_of k)
