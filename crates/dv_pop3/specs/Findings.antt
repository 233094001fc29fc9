-- What a store says while a line is answered, by what the session has seen of its log.
use Rattle.std.specs.Prelude.{◌≡◌, ◌⊎◌, ℕ, ◌+◌, ◌-◌, ◌≤◌, Bool, true, ◌&&◌, List, Option, None, Some, nat_eq, if◌then◌else◌}
use Rattle.std.specs.List.{list_any}
use Rattle.dv_model.specs.declared.types.Command.{Command}
use Rattle.dv_model.specs.declared.types.Command.TheVariants.{UidRemove}
use Rattle.dv_model.specs.declared.types.Mailbox.{Mailbox}
use Rattle.dv_model.specs.declared.types.Reply.{Reply}
use Rattle.dv_model.specs.declared.types.Reply.TheVariants as reply
use Rattle.dv_model.specs.Counts.{Rose}
use Rattle.dv_model.specs.Journals.{Log, Mail, Held, Damaged, at}
use Rattle.dv_model.specs.Sessions.{has_uid, removed_uids}
use Rattle.dv_model.specs.Transcripts.{HasLeft, Wrote, refused_at}
use Rattle.dv_maildrop.specs.declared.types.Asked.{Asked}
use Rattle.dv_maildrop.specs.declared.types.Asked.TheVariants as asked_of
use Rattle.dv_maildrop.specs.declared.types.Found.{Found}
use Rattle.dv_maildrop.specs.declared.types.Found.TheVariants as found
use Rattle.dv_maildrop.specs.declared.types.Removal.{Removal}
use Rattle.dv_maildrop.specs.declared.types.Removal.TheVariants as removal
use Rattle.dv_maildrop.specs.Answers.{Store}
use Rattle.dv_maildrop.specs.Maildrops.{Transaction, marked_set, marked_uids}
use Rattle.dv_member.specs.Calls.{IsAsBefore}
use Rattle.dv_member.specs.Members.{Member, log_seen}

-- ---- messages

abbrev pub found_of : Mail → Found
found_of (Held message) = found.Held message
found_of Damaged = found.Damaged

-- the message of a UID in a mailbox
abbrev pub found_in : (ℕ → Mail) → Mailbox → ℕ → Found
found_in mail m uid = if has_uid m uid then found_of (mail uid) else found.Gone

-- The disk failed a call of the session, and this is the count of such failures then, which is
-- above that from before the run.
pub record IsFailure (count n : ℕ) (old new : Member) : Type 0 where
  pub above : Rose count n
  pub counted : new.refused ≡ old.refused + 1

-- It is what the mailbox that the session has seen then has of the UID, or a failure of the disk.
abbrev pub Finds : Log → ℕ → ℕ → Found → Member → Member → Type 0
Finds start count uid (found.Disk n) old new = IsFailure count n old new
Finds start count uid f old new =
    (f ≡ found_in (log_seen start new).mail new.live uid) × (new.refused ≡ old.refused)

-- and nothing was written
pub record IsFound (start : Log) (count uid : ℕ) (f : Found) (old new : Member) : Type 0 where
  pub finds : Finds start count uid f old new
  pub wrote : new.wrote ≡ old.wrote

-- ---- the removal

-- UID REMOVE of the marked messages
abbrev pub removal_of : Transaction → Command
removal_of m = UidRemove (marked_set m)

-- what came of it, by the last reply
abbrev pub removal_by : Option Reply → Removal
removal_by (Some (reply.Unavailable faults)) = removal.Disk faults
removal_by (Some (reply.TooLong bytes)) = removal.TooLong bytes
removal_by last = removal.Done

-- it is one of these
abbrev pub is_among : List ℕ → ℕ → Bool
is_among uids uid = list_any (nat_eq uid) uids

-- It was done: it is one entry of the log by the session, the group of the command in the mailbox
-- that it met, or none where that has no marked message any more. What it removes is exactly the
-- marked messages that the mailbox had.
pub record IsRemoved (start : Log) (m : Transaction) (old new : Member) : Type 0 where
  pub met : ℕ
  pub low : old.seen ≤ met
  pub mailbox : Mailbox
  pub was_there : at (log_seen start new) met ≡ Some mailbox
  pub allowed : refused_at (log_seen start new) met old.follower.state (removal_of m) mailbox ≡ None
  pub wrote : Wrote (log_seen start new) old.number met new.seen old.follower.state.view
      (removal_of m) mailbox
  pub exactly : (uid : ℕ)
      → is_among (removed_uids (marked_set m) old.follower.state.view mailbox) uid
      ≡ (is_among (marked_uids m) uid && has_uid mailbox uid)
  pub counted : (new.wrote ≡ old.wrote + (new.seen - met)) × (new.refused ≡ old.refused)

-- a limit was met, and nothing was written
pub record IsOverLimit (start : Log) (m : Transaction) (bytes : ℕ) (old new : Member) : Type 0 where
  pub refusal : refused_at (log_seen start new) new.seen old.follower.state (removal_of m) new.live
      ≡ Some (reply.TooLong bytes)
  pub counted : (new.wrote ≡ old.wrote) × (new.refused ≡ old.refused)

-- it was done, or a limit or a failure of the disk was met
abbrev pub Removes : Log → ℕ → Transaction → Removal → Member → Member → Type 0
Removes start count m removal.Done old new = IsRemoved start m old new
Removes start count m (removal.Disk n) old new =
    IsFailure count n old new × (new.wrote ≡ old.wrote)
Removes start count m (removal.TooLong bytes) old new = IsOverLimit start m bytes old new

-- ---- a line

-- What the store says of what it is asked is so. Where it isn't asked the session stays as it is.
abbrev pub Says : Log → ℕ → Transaction → Store → Asked → Member → Member → Type 0
Says start count m store asked_of.Nothing old new = new ≡ old
Says start count m store (asked_of.Message row) old new =
    IsFound start count row.uid (store.message row.uid) old new
Says start count m store asked_of.Removal old new = Removes start count m store.removal old new

-- ---- where memory ran out

-- the session is as before but for what it knows of the words, and a failure of the disk that is
-- counted and not told
pub record IsHeld (old new : Member) : Type 0 where
  pub failures : ℕ
  pub few : failures ≤ 1
  pub is : IsAsBefore (record old { refused = old.refused + failures }) new

-- the session is spent behind the entry of its removal, which isn't answered
pub record IsCut (start : Log) (m : Transaction) (old new : Member) : Type 0 where
  pub met : ℕ
  pub left : HasLeft (log_seen start new) old.number met old.follower.state (removal_of m)
  pub spent : new.spent ≡ true
  pub counted : new.wrote ≡ old.wrote + 1

-- The line has no answer: the session is as before, or as behind the answer, or it is spent.
abbrev pub Leaves : Log → ℕ → Transaction → Asked → Member → Member → Type 0
Leaves start count m asked_of.Nothing old new = new ≡ old
Leaves start count m (asked_of.Message row) old new =
    IsHeld old new ⊎ ((f : Found) × IsFound start count row.uid f old new)
Leaves start count m asked_of.Removal old new =
    IsHeld old new ⊎ IsCut start m old new
    ⊎ ((r : Removal) × Removes start count m r old new)
