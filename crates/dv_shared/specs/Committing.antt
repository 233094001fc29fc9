-- What a commit does to what is kept.
use Rattle.std.specs.Prelude.{◌≡◌, ◌<◌, ◌+◌, ◌-◌, ℕ, true, length, Result, Ok, Err, IfOk}
use Rattle.dv_model.specs.declared.types.Command.{Command}
use Rattle.dv_model.specs.Journals.{Log}
use Rattle.dv_model.specs.Views.{View}
use Rattle.dv_generations.specs.Feeds.{Feed}
use Rattle.dv_member.specs.Members.{Member}
use Rattle.dv_notes.specs.Logs.{log_of}
use Rattle.dv_plans.specs.declared.fault.StoreFault.{StoreFault}
use Rattle.dv_plans.specs.declared.fault.StoreFault.TheVariants as fault
use Rattle.dv_store.specs.Commits.{StaysAs, appended_uid}
use Rattle.dv_tries.specs.Commits.{try_of}
use Rattle.dv_tries.specs.Tries.{Try, end_mark}
use Rattle.dv_shared.specs.declared.written.Written.{Written}
use Rattle.dv_shared.specs.Kept.{Kept, notes_in}
use Rattle.dv_shared.specs.Writing.{NotesBehind, WroteNothing, with_failed}

-- the tables and their words are as before
pub record KeepsWords (old new : Feed) : Type 0 where
  pub parts : new.parts ≡ old.parts
  pub left : new.left ≡ old.left
  pub words : new.words ≡ old.words

module _ {S C : Type 0} where
  -- the write that a commit is given, as it would be tried, with the readings of the clock to come
  abbrev pub given : ℕ → Command → View → Kept S C → (ℕ → ℕ) → Try
  given author c view k upcoming = try_of (length (notes_in k)) author c view k.store upcoming

  -- what is told of it: the place behind all notes, the UID of an appended message, and how many
  -- notes there are
  pub record IsWritten (start : Log) (c : Command) (old new : Kept S C) (w : Written) : Type 0
    where
      pub mark : w.mark ≡ end_mark (log_of start (notes_in new))
      pub uid : w.uid ≡ appended_uid c old.store.chain.live.mailbox
      pub number : w.number ≡ length (notes_in new)

  -- Over any shelf: what it leaves of notes and tries, and what is told of it. Where nothing was
  -- written, the store is as before, and where no note is published the shared words are. Behind a
  -- note there is a pass for who wrote it.
  pub record CommitsKept (honest tells : Type 0) (start : Log) (t : Try) (old new : Kept S C)
      (result : Result Written StoreFault) : Type 0 where
    pub notes : NotesBehind honest tells (log_of start (notes_in old)) t
        old.store.chain.live.mailbox (notes_in old) (notes_in new) result
    pub tries : new.tries ≡ with_failed old.tries t result
    pub told : IfOk result (IsWritten start t.command old new)
    pub stays : WroteNothing (notes_in old) (notes_in new) result → StaysAs old.store new.store
    pub words : notes_in new ≡ notes_in old → KeepsWords old.feed new.feed
    pub pass : length (notes_in old) < length (notes_in new) → new.feed.pass ≡ true

-- ---- what is counted

-- with the entries behind so many
abbrev pub counted_behind : ℕ → ℕ → Result Written StoreFault → ℕ
counted_behind before total (Ok w) = total + (w.number - before)
counted_behind before total (Err e) = total

-- the session counts an entry that it wrote, or its command that a failure of the disk answers
abbrev pub with_outcome : ℕ → Result Written StoreFault → Member → Member
with_outcome before (Ok w) s = record s { wrote = s.wrote + (w.number - before) }
with_outcome before (Err (fault.Disk faults)) s = record s { refused = s.refused + 1 }
with_outcome before (Err e) s = s
