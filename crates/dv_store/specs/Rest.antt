-- A store at rest, and one that was only looked at. The records take what a shelf shows.
use Rattle.std.specs.Prelude.{◌≡◌, ℕ, Option, Some, None, if◌then◌else◌}
use Rattle.dv_model.specs.declared.types.Mailbox.{Mailbox}
use Rattle.dv_model.specs.Journals.{Log, Mail}
use Rattle.dv_model.specs.Sessions.{has_uid}
use Rattle.dv_shelf.specs.Folders.{Folder}
use Rattle.dv_chain.specs.Openings.{OnlyLooks}
use Rattle.dv_writing.specs.Debts.{Debt, Fits, Stands}
use Rattle.dv_lookups.specs.Founds.{mail_of}
use Rattle.dv_lookups.specs.Kept.{IsFileOf}
use Rattle.dv_lookups.specs.Lookups.{KnowsCache}
use Rattle.dv_store.specs.States.{State}
use Rattle.dv_shelf.specs.Sees.{SeesFolder}

-- the log's message of a UID that the mailbox has
abbrev pub log_mail : Log → Mailbox → ℕ → Option Mail
log_mail log m uid = if has_uid m uid then Some (log.mail uid) else None

module _ {S C : Type 0} where
  -- A store is at rest with a log: its chain stands with what is owed, which its turn fits, and
  -- what it read of the cache file is that file.
  pub record IsAtRest (sees : SeesFolder S) (log : Log) (debt : Debt)
      (store : State S C) : Type 0 where
    pub stands : Stands sees log debt store.chain store.shelf
    pub fits : Fits store.owed debt
    pub cache : IsFileOf (sees.files store.shelf) store.cache

  -- nothing but the shelf and what is read of the cache file changes
  pub record IsLookedAt (old new : State S C) : Type 0 where
    pub clock : new.clock ≡ old.clock
    pub chain : new.chain ≡ old.chain
    pub owed : new.owed ≡ old.owed
    pub mark : new.mark ≡ old.mark

  -- The shelf is only read, and a store at rest stays so.
  pub record OnlyReads (sees : SeesFolder S) (old new : State S C) : Type 0 where
    pub looks : OnlyLooks sees old.shelf new.shelf
    pub file : IsFileOf (sees.files old.shelf) old.cache → IsFileOf (sees.files new.shelf) new.cache
    pub rests : (log : Log) (debt : Debt) → IsAtRest sees log debt old
        → IsAtRest sees log debt new

  -- of a store at rest the cache file is true, and the messages of its rows are the log's
  pub record RestKnows (folder : Folder) (log : Log) (store : State S C) : Type 0 where
    pub knows : KnowsCache folder store.chain store.cache
    pub messages : (uid : ℕ) → mail_of folder store.chain.live.mailbox uid
        ≡ log_mail log store.chain.live.mailbox uid
