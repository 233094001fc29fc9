-- A storage from which a run begins, and what is left where none is opened. The records take what a
-- shelf shows.
use Rattle.std.specs.Prelude.{◌≡◌, ◌⊎◌, ℕ, [], Err}
use Rattle.dv_model.specs.declared.types.Mailbox.{Mailbox}
use Rattle.dv_model.specs.declared.types.Mark.{Mark}
use Rattle.dv_model.specs.declared.types.OpenFault.{OpenFault}
use Rattle.dv_model.specs.Journals.{IsU32}
use Rattle.dv_shelf.specs.Crashes.{IsSettled, LeavesOnly}
use Rattle.dv_shelf.specs.Folders.{Folder, IsNew}
use Rattle.dv_shelf.specs.Sees.{SeesFolder}
use Rattle.dv_openings.specs.Openings.{Finds, IsFound}
use Rattle.dv_chain.specs.declared.chain.Chain.{Chain}
use Rattle.dv_chain.specs.Creations.{IsOldOrCreated, first_mailbox}
use Rattle.dv_chain.specs.Openings.{FaultFound, IsOutside, IsQuiet, UnlessDisk}
use Rattle.dv_maps.specs.Storages.{Storage}
use Rattle.dv_mdbox.specs.States.{State}
use Rattle.dv_mdbox_serving.specs.Following.{Follows}
use Rattle.dv_mdbox_serving.specs.Places.{MayLeave}

-- The folder opens to this map at this mark; or it has no file of a storage, and so begins a new
-- one, of some number.
abbrev pub StartsAt : Folder → Mailbox → Mark → Type 0
StartsAt folder m mark =
    IsFound folder (Finds m mark)
    ⊎ (IsNew folder × ((n : ℕ) × (m ≡ first_mailbox n))
    × (mark ≡ record { file_seq = 1; offset = 56 }))

module _ {S C : Type 0} where
  -- It stands at what the folder starts from, its log where the folder opens, with no group since,
  -- and a crash meanwhile left the folder as it was, where it had no storage, or one that gives
  -- that.
  pub record IsBegun (sees : SeesFolder S) (start : Storage) (old : S) (store : State S C)
      : Type 0 where
    pub follows : Follows sees start (sees.fault_count old) [] store
    pub starts : StartsAt (sees.files old) store.chain.live.mailbox store.mark
    pub none : store.entries ≡ []
    pub since : LeavesOnly sees old store.shelf (MayLeave start [] (sees.files old))
    pub settled : IsSettled sees store.shelf

-- The folder opens to what it did, and its files but the log are as they were; or, where it had no
-- storage, one may have been made.
abbrev pub IsUnopened : Folder → Folder → Type 0
IsUnopened old c =
    IsQuiet old c ⊎ (IsNew old × ((now : ℕ) × IsU32 now × IsOldOrCreated old now c))

-- No call was answered: a fault was found in the folder, memory ran out, or the disk failed; and
-- what is left then, and what a crash leaves. It is settled unless the disk failed.
pub record LeavesUnopened {S : Type 0} (sees : SeesFolder S) (f : OpenFault) (old new : S) : Type 0
  where
    pub found : FaultFound f (IsFound (sees.files old))
    pub some : IsOutside f ⊎ (IsNew (sees.files old) → ⊥)
    pub folder : IsUnopened (sees.files old) (sees.files new)
    pub after : (c : Folder) → sees.may_leave new c → IsUnopened (sees.files old) c
    pub crash : LeavesOnly sees old new (IsUnopened (sees.files old))
    pub settled : UnlessDisk {A = Chain} (Err f) (IsSettled sees new)
