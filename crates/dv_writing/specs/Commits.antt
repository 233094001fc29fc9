-- What a commit and a heal do to a chain and to what its folder opens to. The records take what a
-- shelf shows.
use Rattle.std.specs.Prelude.{◌≡◌, ◌≢◌, ◌↔◌, ℕ, ◌+◌, List, Contains, Result, IfOk, OnOk, OnErr, length}
use Rattle.dv_model.specs.declared.types.Mailbox.{Mailbox}
use Rattle.dv_model.specs.Fresh.{IsTouched}
use Rattle.dv_shelf.specs.declared.shelf.Name.{Name}
use Rattle.dv_shelf.specs.declared.shelf.Name.TheVariants as name
use Rattle.dv_shelf.specs.Crashes.{LeavesOnly}
use Rattle.dv_shelf.specs.Folders.{Folder}
use Rattle.dv_logfile.specs.declared.commit.Debt.{Debt}
use Rattle.dv_logfile.specs.declared.commit.Debt.TheVariants as debt
use Rattle.dv_logfile.specs.Gates.{FromOneOf}
use Rattle.dv_apply.specs.Preparing.{Makes, Ready}
use Rattle.dv_chain.specs.declared.chain.Chain.{Chain}
use Rattle.dv_chain.specs.Openings.{HasBounds}
use Rattle.dv_chain.specs.Rest.{IsPending, Last, Nothing, Owed, Pending, Rests}
use Rattle.dv_writing.specs.declared.committing.Committed.{Committed}
use Rattle.dv_writing.specs.Opening.{MayOpen, mark_behind}
use Rattle.dv_shelf.specs.Sees.{SeesFolder}

-- ---- the chain

-- a group's text, and its records' mailbox, which is ready to be shown
pub record IsReady (text : List ℕ) (prepared : Ready) (chain : Chain) : Type 0 where
  pub after : Mailbox
  pub pending : IsPending text after chain
  pub makes : Makes chain.live prepared after

-- Behind Ok the chain has the mailbox with the group, the mark is its new end behind the text, the
-- UIDs that are touched are handed out, and nothing is owed. An error keeps mailbox, end and count.
pub record AdvancesChain (text : List ℕ) (old new : Chain) {E : Type 0} (result : Result Committed E)
    : Type 0 where
  pub mailbox : (after : Mailbox) → IsPending text after old
      → OnOk result (new.live.mailbox ≡ after)
  pub mark : IfOk result (λ done. (done.mark ≡ mark_behind text old)
      × (done.mark ≡ record { file_seq = new.log.file_seq; offset = new.log.end }))
  pub touched : IfOk result (λ done. (uid : ℕ) → Contains done.touched uid
      ↔ IsTouched old.live.mailbox new.live.mailbox uid)
  pub debt : OnOk result (new.log.debt ≡ debt.None)
  pub failed : OnErr result ((new.live ≡ old.live) × (new.log.end ≡ old.log.end)
      × (new.log.count ≡ old.log.count))
  pub file : (new.log.file_seq ≡ old.log.file_seq) × (new.indexid ≡ old.indexid)
      × (new.records ≡ old.records)
  pub bounds : HasBounds old → HasBounds new

-- Behind Ok nothing is owed in the log, behind an error what was; the rest of the chain stays.
pub record HealsChain (old new : Chain) {T E : Type 0} (result : Result T E) : Type 0 where
  pub debt : OnOk result (new.log.debt ≡ debt.None)
  pub failed : OnErr result (new ≡ old)
  pub live : new.live ≡ old.live
  pub log : (new.log.file_seq ≡ old.log.file_seq) × (new.log.end ≡ old.log.end)
      × (new.log.count ≡ old.log.count)
  pub file : (new.indexid ≡ old.indexid) × (new.records ≡ old.records)

-- ---- what is owed

-- behind a commit that failed, by the log's debt
abbrev pub owed_after : Debt → List ℕ → Mailbox → Owed
owed_after debt.None text after = Nothing
owed_after debt.Gate text after = Pending text after

-- behind a heal; the last replace of a rotation is none of its business
abbrev pub healed : Owed → Owed
healed Nothing = Nothing
healed (Pending text after) = Nothing
healed (Last log after) = Last log after

-- ---- the folder

-- the files but the log are as they were
abbrev pub KeepsOthers : Folder → Folder → Type 0
KeepsOthers old new = (n : Name) → n ≢ name.Log → new n ≡ old n

-- the same, and the folder opens to the chain's mailbox, or to that with what is owed
abbrev pub OpensBeside : Owed → Chain → Folder → Folder → Type 0
OpensBeside owed chain old new = KeepsOthers old new × MayOpen owed chain new

-- A commit goes from rest to rest. A crash at any moment leaves a folder that opens to the mailbox
-- before or with the group; one behind Ok to that with the group, one behind an error what the debt
-- says.
pub record CommitsGroup {S : Type 0} (sees : SeesFolder S) (text : List ℕ) (after : Mailbox)
    (chain new_chain : Chain) {T E : Type 0} (result : Result T E) (old new : S) : Type 0 where
  pub ok : OnOk result (Rests sees Nothing new_chain new)
  pub err : OnErr result (Rests sees (owed_after new_chain.log.debt text after) new_chain new)
  pub any_moment : LeavesOnly sees old new
      (FromOneOf (sees.may_leave old) (OpensBeside (Pending text after) chain))
  pub others : KeepsOthers (sees.files old) (sees.files new)

-- A heal goes from rest to rest. A crash at any moment leaves a folder that opens to the mailbox,
-- or to that with what is owed; one behind Ok to the mailbox alone.
pub record HealsFolder {S : Type 0} (sees : SeesFolder S) (owed : Owed)
    (chain new_chain : Chain) {T E : Type 0} (result : Result T E) (old new : S) : Type 0 where
  pub ok : OnOk result (Rests sees (healed owed) new_chain new)
  pub err : OnErr result (Rests sees owed new_chain new)
  pub any_moment : LeavesOnly sees old new
      (FromOneOf (sees.may_leave old) (OpensBeside owed chain))
  pub others : KeepsOthers (sees.files old) (sees.files new)
