-- What a command of a session leaves of it, whatever it is.
use Rattle.std.specs.Prelude.{◌≡◌, ◌⊎◌, ◌≤◌, ◌<◌, ◌+◌, ◌-◌, ℕ, true, false, List, [], ◌∷◌, count_by}
use Rattle.dv_model.specs.declared.types.Command.{Command}
use Rattle.dv_model.specs.Journals.{Log}
use Rattle.dv_model.specs.Transcripts.{HasLeft, touches_disk}
use Rattle.dv_member.specs.Calls.{seeing}
use Rattle.dv_member.specs.Members.{Member, log_seen}

-- how many commands need the lock: those that write, or that read messages
abbrev pub lock_count : List Command → ℕ
lock_count commands = count_by touches_disk commands

-- its command was answered: it isn't spent, and it took the lock for it once at most, where the
-- command needs that
pub record IsServed (c : Command) (old new : Member) : Type 0 where
  pub number : new.number ≡ old.number
  pub fresh : new.spent ≡ false
  pub holds : new.holds ≤ old.holds + lock_count (c ∷ [])

-- it may have seen more, and is else as it was
abbrev pub IsSeeing : Member → Member → Type 0
IsSeeing old new = new ≡ record (seeing old new) {
  tables = new.tables;
  caught_up = new.caught_up;
  knows_seal = new.knows_seal;
}

-- so it is where memory ran out and its command wrote nothing, but that a failure of the disk may
-- be counted that isn't told
pub record IsUnserved (old new : Member) : Type 0 where
  pub now : new ≡ record (seeing old new) {
    tables = new.tables;
    caught_up = new.caught_up;
    knows_seal = new.knows_seal;
    refused = new.refused;
  }
  pub refused : old.refused ≤ new.refused

-- or memory ran out behind its entry, the last that it has seen, which is left without an answer
pub record IsLeft (start : Log) (honest : Type 0) (c : Command) (old new : Member) : Type 0 where
  pub now : new ≡ record old {
    front = new.front;
    tables = new.tables;
    seen = new.seen;
    spent = true;
    wrote = old.wrote + 1;
  }
  pub behind : old.seen < new.seen
  pub entry : honest
      → HasLeft (log_seen start new) old.number (new.seen - 1) old.follower.state c

-- where memory ran out
abbrev pub IsCutShort : Log → Type 0 → Command → Member → Member → Type 0
IsCutShort start honest c old new = IsUnserved old new ⊎ IsLeft start honest c old new
