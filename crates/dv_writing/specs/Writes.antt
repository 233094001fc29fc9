-- What a write does to a store's chain, and to what its folder gives. The records take what a
-- shelf shows.
use Rattle.std.specs.Prelude.{◌≡◌, ◌⊎◌, ◌↔◌, ℕ, List, Contains, Option, Some, None, IfSome, Result, IfOk, OnOk, OnErr}
use Rattle.dv_model.specs.declared.types.Command.{Command}
use Rattle.dv_model.specs.declared.types.Command.TheVariants as command
use Rattle.dv_model.specs.declared.types.Group.{Group}
use Rattle.dv_model.specs.declared.types.Mailbox.{Mailbox}
use Rattle.dv_model.specs.Effects.{applied}
use Rattle.dv_model.specs.Fresh.{IsTouched}
use Rattle.dv_model.specs.Journals.{Log, new_guid}
use Rattle.dv_model.specs.Sessions.{group_of}
use Rattle.dv_model.specs.Transcripts.{with_written}
use Rattle.dv_model.specs.Views.{View}
use Rattle.dv_shelf.specs.Crashes.{LeavesOnly}
use Rattle.dv_shelf.specs.Folders.{Folder}
use Rattle.dv_logfile.specs.declared.commit.Debt.TheVariants as log_debt
use Rattle.dv_chain.specs.declared.chain.Chain.{Chain}
use Rattle.dv_chain.specs.Rest.{IsPending}
use Rattle.dv_writing.specs.declared.committing.Committed.{Committed}
use Rattle.dv_writing.specs.Opening.{mark_behind}
use Rattle.dv_files.specs.Writing.{IsFileOf}
use Rattle.dv_files.specs.declared.texts.Turn.{Turn}
use Rattle.dv_files.specs.Texts.{ClosesLog, place_of}
use Rattle.dv_writing.specs.Debts.{Debt, Fits, Nothing, Pending, Stands}
use Rattle.dv_writing.specs.Keeping.{Gives}
use Rattle.dv_writing.specs.Repairing.{IsOwing}
use Rattle.dv_writing.specs.Renewals.{IsCacheOf}
use Rattle.dv_writing.specs.declared.steps.Files.{Files}
use Rattle.dv_writing.specs.declared.steps.Files.TheVariants as files
use Rattle.dv_writing.specs.declared.steps.Renewal.{Renewal}
use Rattle.dv_writing.specs.declared.steps.Steps.{Steps}
use Rattle.dv_writing.specs.Steps.{HasWritten}
use Rattle.dv_writing.specs.Ways.{Held, IsLeftOnWay, MayGiveOn, StopsOnWay, ready}
use Rattle.dv_shelf.specs.Sees.{SeesFolder}

-- ---- the chain

-- Behind Ok the mailbox has the group, the mark is the place behind it, the touched UIDs are handed
-- out, and nothing is owed. An error keeps the mailbox, and stops on the way, or leaves the chain
-- where the group begins; then no turn is owed.
pub record CarriesOut (owed left : Option Turn) (text : List ℕ) (steps : Steps) (old new : Chain)
    {E : Type 0} (result : Result Committed E) : Type 0 where
  pub mailbox : (after : Mailbox) → IsPending text after (ready owed steps.turn old)
      → OnOk result (new.live.mailbox ≡ after)
  pub mark : IfOk result (λ done. (done.mark ≡ mark_behind text (ready owed steps.turn old))
      × (done.mark ≡ place_of new))
  pub touched : IfOk result (λ done. (uid : ℕ) → Contains done.touched uid
      ↔ IsTouched old.live.mailbox new.live.mailbox uid)
  pub paid : OnOk result ((new.log.debt ≡ log_debt.None) × (left ≡ None))
  pub failed : OnErr result (new.live ≡ old.live)
  pub place : OnErr result (StopsOnWay owed left steps.turn old new
      ⊎ ((place_of new ≡ place_of (ready owed steps.turn old)) × (left ≡ None)))
  pub indexid : new.indexid ≡ old.indexid
  pub owing : IsOwing new left

-- ---- what is written

-- a command of a session with its view, and when its message was received, in seconds since 1970
pub record Write : Type 0 where
  pub author : ℕ
  pub command : Command
  pub view : View
  pub received : ℕ

-- the group that it writes over this mailbox
abbrev pub group_by : Log → Write → Mailbox → Group
group_by log write m = group_of write.command write.view m log.guid

-- that group makes this mailbox
abbrev pub IsAfter : Log → Write → Mailbox → Mailbox → Type 0
IsAfter log write m after = applied m (group_by log write m).records ≡ Some after

-- the log with that group
abbrev pub log_with : Log → Write → Mailbox → Log
log_with log write m =
    with_written log write.author write.command write.received (group_by log write m) m

-- the appended message's file, with the GUID of its UID
pub record IsMessageOf (log : Log) (received : ℕ) (m : Mailbox) (message : List ℕ) (steps : Files)
    : Type 0 where
  pub text : List ℕ
  pub is : steps ≡ files.Message text
  pub file : IsFileOf message (new_guid log.indexid m.uid_validity m.next_uid received) text

-- the cache file of the log's messages
pub record IsRenewalOf (log : Log) (m : Mailbox) (steps : Files) : Type 0 where
  pub renewal : Renewal
  pub is : steps ≡ files.Check renewal
  pub cache : IsCacheOf log m renewal.cache

-- the files of a command
abbrev pub AreFilesOf : Log → ℕ → Mailbox → Command → Files → Type 0
AreFilesOf log received m (command.Append flags keywords message) steps =
    IsMessageOf log received m message steps
AreFilesOf log received m command.Check steps = IsRenewalOf log m steps
AreFilesOf log received m c steps = steps ≡ files.Nothing

-- the text and the steps are those of the write over the chain's mailbox
pub record IsWriteOf (log : Log) (write : Write) (owed : Option Turn) (chain : Chain)
    (folder : Folder) (text : List ℕ) (steps : Steps) : Type 0 where
  pub after : Mailbox
  pub gives : IsAfter log write chain.live.mailbox after
  pub pending : IsPending text after (ready owed steps.turn chain)
  pub closes : IfSome steps.turn (λ turn. ClosesLog chain turn folder)
  pub files : AreFilesOf log write.received chain.live.mailbox write.command steps.files

-- ---- what the folder gives

-- the mailbox from before, or that with what was owed, or that with the group, at its mark
abbrev pub MayGiveWrite : Log → Debt → Write → Option Turn → List ℕ → Steps → Chain → Folder
    → Type 0
MayGiveWrite log debt write owed text steps chain c =
    MayGiveOn log debt steps.turn chain c
    ⊎ ((after : Mailbox) × IsAfter log write chain.live.mailbox after
    × Gives (log_with log write chain.live.mailbox) after
    (mark_behind text (ready owed steps.turn chain)) c)

-- nothing is owed, or the gate of the write's group may be open
abbrev pub MayOweGate : Log → Write → List ℕ → Mailbox → Debt → Type 0
MayOweGate log write text m now =
    (now ≡ Nothing)
    ⊎ ((after : Mailbox) × IsAfter log write m after
    × (now ≡ Pending text after (log_with log write m)))

-- What an error leaves of chain, turn and debt together: what is left on the way; or the chain is
-- where the group begins, no turn is owed, and the group's gate may be open.
abbrev pub IsLeftByWrite : Log → Debt → Write → Option Turn → Option Turn → List ℕ → Steps → Chain
    → Chain → Debt → Type 0
IsLeftByWrite log debt write owed left text steps old new now =
    IsLeftOnWay owed left steps.turn old new debt now
    ⊎ ((place_of new ≡ place_of (ready owed steps.turn old)) × (left ≡ None)
    × MayOweGate log write text old.live.mailbox now)

-- From rest to rest: behind Ok with the group, and nothing is owed; behind an error as before, with
-- what is left. A crash at any moment leaves the mailbox from before or with the group, whole. The
-- message files, the index and the cache file are as the steps say.
pub record WritesStore {S : Type 0} (sees : SeesFolder S) (log : Log) (debt : Debt)
    (write : Write) (text : List ℕ) (steps : Steps) (old new : Held S) {T E : Type 0}
    (result : Result T E) : Type 0 where
  pub ok : OnOk result
      (Stands sees (log_with log write old.chain.live.mailbox) Nothing new.chain new.shelf)
  pub err : OnErr result ((now : Debt)
      × IsLeftByWrite log debt write old.owed new.owed text steps old.chain new.chain now
      × Fits new.owed now × Stands sees log now new.chain new.shelf)
  pub any_moment : LeavesOnly sees old.shelf new.shelf
      (MayGiveWrite log debt write old.owed text steps old.chain)
  pub written : HasWritten old.chain.live.mailbox steps result (sees.files old.shelf)
      (sees.files new.shelf)
