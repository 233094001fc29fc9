-- What a sweep and a checkpoint do to a store: what is owed is repaired first. The records take
-- what a shelf shows.
use Rattle.std.specs.Prelude.{◌≡◌, ◌⊎◌, ℕ, List, Contains, Some, None, Result, OnOk, OnErr}
use Rattle.dv_model.specs.Journals.{Log}
use Rattle.dv_shelf.specs.declared.shelf.Name.TheVariants as name
use Rattle.dv_shelf.specs.Crashes.{LeavesOnly}
use Rattle.dv_shelf.specs.Folders.{Folder}
use Rattle.dv_logfile.specs.declared.commit.Debt.TheVariants as log_debt
use Rattle.dv_chain.specs.declared.chain.Chain.{Chain}
use Rattle.dv_files.specs.Texts.{IsSnapshotOf}
use Rattle.dv_writing.specs.Debts.{Debt, MayGive, Nothing}
use Rattle.dv_writing.specs.Ways.{repaired}
use Rattle.dv_store.specs.Rest.{IsAtRest}
use Rattle.dv_store.specs.States.{State}
use Rattle.dv_shelf.specs.Sees.{SeesFolder}

-- ---- the files

-- Behind Ok the message files of these UIDs are gone. The others stay, and the cache file too.
pub record SweepsMails (uids : List ℕ) {T E : Type 0} (result : Result T E) (old new : Folder)
    : Type 0 where
  pub gone : OnOk result ((uid : ℕ) → Contains uids uid → new (name.Mail uid) ≡ None)
  pub others : (uid : ℕ) → (Contains uids uid → ⊥) → new (name.Mail uid) ≡ old (name.Mail uid)
  pub cache : new name.Cache ≡ old name.Cache

-- the log, the rotated log and the index are as before
pub record KeepsLog (old new : Folder) : Type 0 where
  pub log : new name.Log ≡ old name.Log
  pub log2 : new name.Log2 ≡ old name.Log2
  pub index : new name.Index ≡ old name.Index

-- the index is the snapshot of the chain's mailbox at its place
pub record HasSnapshot (chain : Chain) (folder : Folder) : Type 0 where
  pub text : List ℕ
  pub is : IsSnapshotOf chain text
  pub index : folder name.Index ≡ Some text

-- ---- the store

module _ {S C : Type 0} where
  -- nothing is owed
  pub record OwesNothing (store : State S C) : Type 0 where
    pub turn : store.owed ≡ None
    pub debt : store.chain.log.debt ≡ log_debt.None

  -- what is owed was repaired
  abbrev pub IsRepaired : State S C → State S C → Type 0
  IsRepaired old new = (new.chain ≡ repaired old.owed old.chain) × (new.owed ≡ None)

  -- the chain is the same, and so is what is owed
  abbrev pub IsUnpaid : State S C → State S C → Type 0
  IsUnpaid old new = (new.chain ≡ old.chain) × (new.owed ≡ old.owed)

  -- Behind Ok what was owed is repaired, behind an error it is or isn't; else only the shelf
  -- changes.
  pub record PaysDebts (old new : State S C) {T E : Type 0} (result : Result T E) : Type 0 where
    pub ok : OnOk result (IsRepaired old new)
    pub err : OnErr result (IsUnpaid old new ⊎ IsRepaired old new)
    pub clock : new.clock ≡ old.clock
    pub cache : new.cache ≡ old.cache
    pub mark : new.mark ≡ old.mark

  -- From rest to rest: behind Ok nothing is owed, behind an error nothing or what was. A crash at
  -- any moment leaves a folder that gives the mailbox, or that with what was owed.
  pub record PaysQuietly (sees : SeesFolder S) (log : Log) (debt : Debt) (old new : State S C)
      {T E : Type 0} (result : Result T E) : Type 0 where
    pub any_moment : LeavesOnly sees old.shelf new.shelf (MayGive log debt old.chain)
    pub ok : OnOk result (IsAtRest sees log Nothing new)
    pub err : OnErr result
        (IsAtRest sees log debt new ⊎ IsAtRest sees log Nothing new)
