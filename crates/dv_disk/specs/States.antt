-- What a folder knows of its disk.
use Rattle.std.specs.Prelude.{◌≡◌, Bool, true, false, not, ◌&&◌, ◌||◌, List, [], ◌∷◌}
use Rattle.dv_shelf.specs.declared.shelf.Name.{Name}
use Rattle.dv_shelf.specs.Disks.{Version}
use Rattle.dv_system.specs.Entries.{At}
use Rattle.dv_system.specs.Disks.{Disk, Place, Missing, Loose, Doubted, Firm}

-- a crash doesn't take the folder away
abbrev pub is_firm : Place → Bool
is_firm Missing = false
is_firm Loose = false
is_firm Doubted = false
is_firm Firm = true

-- no sync of the folder's parent failed
abbrev pub trusts_place : Place → Bool
trusts_place Missing = true
trusts_place Loose = true
trusts_place Doubted = false
trusts_place Firm = true

-- the list is empty
abbrev pub is_none : List Version → Bool
is_none [] = true
is_none (version ∷ others) = false

-- a crash brings back no earlier file, unless a sync of the folder failed
abbrev pub sweeps : At → Bool
sweeps at = at.is_unsure || is_none at.others

-- no sync failed that the entry or its file hangs on
abbrev pub trusts : At → Bool
trusts at = not at.is_doubted && not at.is_unsure

-- a folder that is marked so is durable
abbrev pub Stands : Bool → Type 0 → Disk → Type 0
Stands is_ready tells disk = is_ready ≡ true → tells → is_firm disk.place ≡ true

-- the entries of one that is marked so are swept
abbrev pub AreSwept : Bool → Type 0 → Disk → Type 0
AreSwept is_swept tells disk = is_swept ≡ true → tells → (n : Name) → sweeps (disk.named n) ≡ true

-- where no failed sync was marked, none failed
abbrev pub IsTrusted : Bool → Type 0 → Disk → Type 0
IsTrusted has_failed tells disk =
    has_failed ≡ false → tells → (n : Name) → trusts (disk.named n) ≡ true

-- nor one of the folder's parent
abbrev pub IsPlaceTrusted : Bool → Type 0 → Disk → Type 0
IsPlaceTrusted has_failed tells disk = has_failed ≡ false → tells → trusts_place disk.place ≡ true
