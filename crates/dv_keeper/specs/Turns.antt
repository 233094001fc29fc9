-- What a command leaves that is served under the lock: the turn of its session, and what becomes of
-- the session, by what came of it and by what the call answers.
use Rattle.std.specs.Prelude.{◌≡◌, ◌≤◌, ◌<◌, ◌+◌, ◌-◌, ℕ, Bool, true, false, List, [], ◌∷◌, length, Result, Ok, Err, OnOk, ⊤, if◌then◌else◌}
use Rattle.std.specs.List.{list_any}
use Rattle.dv_model.specs.declared.types.Command.{Command}
use Rattle.dv_model.specs.declared.types.Reply.{Reply}
use Rattle.dv_model.specs.declared.types.Reply.TheVariants as reply
use Rattle.dv_model.specs.Journals.{Log}
use Rattle.dv_model.specs.Transcripts.{HasLeft, IsTurn, Turn, unavailable_count}
use Rattle.dv_plans.specs.declared.fault.StoreFault.{StoreFault}
use Rattle.dv_plans.specs.declared.fault.StoreFault.TheVariants as fault
use Rattle.dv_front.specs.declared.notes.Note.{Note}
use Rattle.dv_generations.specs.Feeds.{Feed, journal}
use Rattle.dv_member.specs.Calls.{IsAsBefore, IsSpent, counted, seeing, turned}
use Rattle.dv_member.specs.Members.{Member, log_seen, notes_of}
use Rattle.dv_serving.specs.Lines.{IsFaultLine, fault_lines}
use Rattle.dv_shared.specs.declared.written.Written.{Written}
use Rattle.dv_shared.specs.Writing.{refused_behind}
use Rattle.dv_keeper.specs.declared.fault.SessionFault.{SessionFault}
use Rattle.dv_keeper.specs.declared.fault.SessionFault.TheVariants as session_fault
use Rattle.dv_keeper.specs.Sessions.{IsAtNewest}

-- ---- a turn

-- a command of a session, before and behind, which met so many entries
abbrev pub turn_between : Command → ℕ → List Reply → Member → Member → Turn
turn_between c met lines old new = record {
  before = old.follower.state;
  command = c;
  met = met;
  behind = new.seen;
  replies = lines;
  after = new.follower.state;
}

-- a line with a mark, which ends an answer
abbrev pub has_mark : Reply → Bool
has_mark (reply.Done word mark appended modified) = true
has_mark (reply.Gone uid mark modified) = true
has_mark (reply.Damaged uid mark) = true
has_mark r = false

-- the lines of an answer have a mark; those of a refusal or of the disk's failure have none
abbrev pub is_marked : List Reply → Bool
is_marked lines = list_any has_mark lines

-- It was answered so by the session rules, over what its session has seen then. It met no fewer
-- entries than the session had seen. What the session wrote is counted, and so is a failure of the
-- disk; an answer with a mark is a turn.
pub record HasAnswered (start : Log) (count : ℕ) (c : Command) (lines : List Reply)
    (old new : Member) : Type 0 where
  pub met : ℕ
  pub low : old.seen ≤ met
  pub turn : IsTurn (log_seen start new) count old.number (turn_between c met lines old new)
  pub wrote : new.wrote ≡ old.wrote + (new.seen - met)
  pub refused : new.refused ≡ old.refused + unavailable_count (lines ∷ [])
  pub turns : new.turns ≡ (if is_marked lines then counted old.turns else old.turns)

-- ---- what becomes of a session

-- it has seen these notes, and no more
pub record HasSeen (notes : List Note) (s : Member) : Type 0 where
  pub are : notes_of s ≡ notes
  pub many : s.seen ≡ length notes

-- it caught up in a hold of the lock, and was told of that; it wrote so many entries there
pub record HasTold (wrote : ℕ) (old new : Member) : Type 0 where
  pub newest : IsAtNewest old new
  pub now : new ≡ turned (record (seeing old new) {
    knows_seal = false;
    holds = counted old.holds;
    wrote = old.wrote + wrote;
  }) new.follower

-- it caught up in a hold of the lock, where a limit or the disk's failure answered its command
pub record HasMet (e : StoreFault) (old new : Member) : Type 0 where
  pub newest : IsAtNewest old new
  pub now : new ≡ record (seeing old new) {
    caught_up = true;
    knows_seal = false;
    holds = counted old.holds;
    refused = refused_behind {A = Written} old.refused (Err e);
  }

-- memory ran out behind its entry: it counts as having seen all, has kept none of it, and is spent
pub record HasSpent (old new : Member) : Type 0 where
  pub newest : IsAtNewest old new
  pub now : new ≡ record old {
    front = new.front;
    tables = new.tables;
    seen = new.seen;
    spent = true;
    wrote = old.wrote + 1;
  }

-- it is as before, but for what it knows of the shared words, and a failure of the disk is counted
abbrev pub IsAsBeforeBut : {A : Type 0} → Result A StoreFault → Member → Member → Type 0
IsAsBeforeBut came old new =
    IsAsBefore (record old { refused = refused_behind old.refused came }) new

-- ---- what comes of a write

-- behind so many entries it was done, or a limit or the disk's failure was met
abbrev pub EndsBy : ℕ → Result Written StoreFault → Member → Member → Type 0
EndsBy met (Ok w) old new = HasTold (new.seen - met) old new
EndsBy met (Err e) old new = HasMet e old new

-- With the notes before it and behind it: where the call answers, the session has seen all; where
-- memory ran out, nothing was written; or the session is spent behind its entry.
abbrev pub LeavesWriter : List Note → List Note → Result Written StoreFault → Member → Member
    → Result (Unit {0}) SessionFault → Type 0
LeavesWriter notes now came old new (Ok done) =
    HasSeen now new × EndsBy (length notes) came old new
LeavesWriter notes now came old new (Err session_fault.NoMemory) =
    (now ≡ notes) × IsAsBeforeBut came old new
LeavesWriter notes now came old new (Err (session_fault.NoMemoryAfter w)) =
    (came ≡ Ok w) × (w.number ≡ length notes + 1) × HasSeen now new × HasSpent old new

-- the one line of a limit, or of the disk's failure
abbrev pub TellsFault : {R E : Type 0} → (R → List Reply → R) → R → R → Result Written StoreFault
    → Result (Unit {0}) E → Type 0
TellsFault with old new (Ok w) result = ⊤
TellsFault with old new (Err e) result =
    OnOk result ((new ≡ with old (fault_lines e)) × IsFaultLine e (fault_lines e))

-- behind its entry a session's command is left without an answer
abbrev pub LeavesEntry : Log → Command → Member → Member → SessionFault → Type 0
LeavesEntry start c old new session_fault.NoMemory = ⊤
LeavesEntry start c old new (session_fault.NoMemoryAfter w) =
    HasLeft (log_seen start new) old.number (w.number - 1) old.follower.state c

-- memory ran out behind a commit that was taken, before which the log had so many entries
abbrev pub LeavesUntold : ℕ → Written → Feed → Member → Member → SessionFault → Type 0
LeavesUntold before w f old new session_fault.NoMemory = (w.number ≤ before) × IsAsBefore old new
LeavesUntold before w f old new (session_fault.NoMemoryAfter v) =
    (before < w.number) × (v ≡ w) × HasSeen (journal f) new × IsSpent f old new

-- ---- what comes of a reading

-- Over these notes: where the call answers, the session has seen them all; but where the disk
-- failed, or memory ran out, it is as before.
abbrev pub LeavesReader : {A E : Type 0} → List Note → Result A StoreFault → Member → Member
    → Result (Unit {0}) E → Type 0
LeavesReader notes (Ok x) old new (Ok done) = HasSeen notes new × HasTold 0 old new
LeavesReader {A} notes (Err (fault.Disk faults)) old new (Ok done) =
    IsAsBeforeBut {A = A} (Err (fault.Disk faults)) old new
LeavesReader notes (Err e) old new (Ok done) = ⊥
LeavesReader notes came old new (Err e) = IsAsBeforeBut came old new
