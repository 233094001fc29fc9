-- What the calls of a session leave.
use Rattle.std.specs.Prelude.{◌≡◌, ℕ, ◌+◌, Bool, true, false, ◌||◌, min, length}
use mathlib.Core.List.{IsPrefix}
use Rattle.dv_model.specs.declared.types.Command.{Command}
use Rattle.dv_model.specs.declared.types.Mailbox.{Mailbox}
use Rattle.dv_model.specs.declared.types.Step.TheVariants.{Full}
use Rattle.dv_model.specs.Counts.{last_count}
use Rattle.dv_model.specs.Journals.{Log, mark_of}
use Rattle.dv_model.specs.Sessions.{answer}
use Rattle.dv_model.specs.Transcripts.{Turn}
use Rattle.dv_model.specs.Views.{empty_view, moved}
use Rattle.dv_front.specs.Rolls.{ListingView}
use Rattle.dv_feed.specs.declared.taking.Taken.{Taken}
use Rattle.dv_feed.specs.declared.taking.Taken.TheVariants.{Fresh, Rotated}
use Rattle.dv_answer.specs.Following.{Follower, new_follower}
use Rattle.dv_generations.specs.Feeds.{Feed, journal}
use Rattle.dv_member.specs.Members.{Front, Member, notes_of}

-- ---- the beginning

-- a session that was just made: it has seen nothing, and hasn't selected the mailbox
abbrev pub new_member : ℕ → Front → ListingView → Mailbox → Member
new_member number front tables live = record {
  number = number;
  front = front;
  tables = tables;
  seen = 0;
  follower = new_follower;
  live = live;
  caught_up = false;
  knows_seal = false;
  spent = false;
  turns = 0;
  holds = 0;
  wrote = 0;
  refused = 0;
}

-- ---- loads

-- the number of words was loaded once: no fewer are known, and behind the seal there are no more
pub record IsLoaded (old new : Front) : Type 0 where
  pub now : new ≡ record old { notes = new.notes; sealed = new.sealed; loads = old.loads + 1 }
  pub begins : IsPrefix old.notes new.notes
  pub last : old.sealed ≡ true → (new.sealed ≡ true) × (new.notes ≡ old.notes)

abbrev pub is_fresh : Taken → Bool
is_fresh Fresh = true
is_fresh Rotated = false

abbrev pub is_rotated : Taken → Bool
is_rotated Fresh = false
is_rotated Rotated = true

-- with what it knows and has seen now: its state, its turns and what it counts are as before
abbrev pub seeing : Member → Member → Member
seeing old new = record old {
  front = new.front;
  tables = new.tables;
  seen = new.seen;
  follower = record old.follower { touched = new.follower.touched };
  live = new.live;
}

-- It saw what was loaded. It has caught up where nothing is sealed, and else stays as it was; then it knows of the seal.
abbrev pub refreshed : Taken → Member → Member → Member
refreshed taken old new = record (seeing old new) {
  tables = old.tables;
  caught_up = is_fresh taken || old.caught_up;
  knows_seal = is_rotated taken;
}

-- it is as before, but for what it knows of the shared words, which is no less
pub record IsAsBefore (old new : Member) : Type 0 where
  pub now : new ≡ record old { front = new.front; tables = new.tables }
  pub notes : notes_of new ≡ notes_of old
  pub tables : IsPrefix old.tables.items new.tables.items

-- ---- turns

-- a count that stops at its end
abbrev pub counted : ℕ → ℕ
counted n = min (n + 1) last_count

-- it was told, and has to catch up before its next turn
abbrev pub turned : Member → Follower → Member
turned s f = record s { follower = f; caught_up = false; turns = counted s.turns }

-- the turn of a command that writes nothing and reads no messages, by a session that has seen all of this log
abbrev pub turn_of : Log → Member → Command → Turn
turn_of log s c =
    let a = answer log.mail s.follower.state c s.live s.seen s.live (mark_of log s.seen) in
    record { before = s.follower.state; command = c; met = s.seen; behind = s.seen; replies = a.replies; after = a.next }

-- it was told all of its mailbox, by a whole step
pub record IsToldAll (s : Member) : Type 0 where
  pub told : s.follower.state.told ≡ s.seen
  pub view : s.follower.state.view ≡ moved Full empty_view s.live

-- ---- under the lock

-- it has seen all that was published, in the newest generation, and knows the tables of all
pub record SeesAll (f : Feed) (old new : Member) : Type 0 where
  pub notes : notes_of new ≡ journal f
  pub newest : new.front.generation.number ≡ length f.parts
  pub unsealed : new.front.sealed ≡ false
  pub tables : (length new.tables.items ≡ length f.parts) × IsPrefix old.tables.items new.tables.items

-- and so it has caught up
pub record HasCaughtUp (f : Feed) (old new : Member) : Type 0 where
  pub all : SeesAll f old new
  pub now : new ≡ record (seeing old new) { caught_up = true; knows_seal = false }

-- it has caught up, and was then told of that
pub record HasTurned (f : Feed) (old new : Member) : Type 0 where
  pub all : SeesAll f old new
  pub now : new ≡ turned (record (seeing old new) { knows_seal = false }) new.follower

-- it has seen all, but kept none of it, and is spent
pub record IsSpent (f : Feed) (old new : Member) : Type 0 where
  pub all : SeesAll f old new
  pub now : new ≡ record old { front = new.front; tables = new.tables; seen = new.seen; spent = true }
