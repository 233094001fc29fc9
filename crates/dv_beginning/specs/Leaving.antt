-- What is left of a folder from which a run begins. The records take what a shelf shows.
use Rattle.std.specs.Prelude.{◌≡◌, ◌⊎◌, ℕ, List, Err}
use Rattle.dv_model.specs.declared.types.OpenFault.{OpenFault}
use Rattle.dv_model.specs.Journals.{Log}
use Rattle.dv_shelf.specs.Crashes.{IsSettled, LeavesOnly}
use Rattle.dv_shelf.specs.Folders.{Folder, IsNew}
use Rattle.dv_openings.specs.Openings.{IsFound}
use Rattle.dv_chain.specs.declared.chain.Chain.{Chain}
use Rattle.dv_chain.specs.Creations.{IsOldOrCreated}
use Rattle.dv_chain.specs.Openings.{FaultFound, IsQuiet, UnlessDisk}
use Rattle.dv_playing.specs.Playing.{Attempt}
use Rattle.dv_serving.specs.NextRuns.{IsTrueFolder, LeavesTrue}
use Rattle.dv_serial.specs.Places.{MayGive}
use Rattle.dv_beginning.specs.Causes.{IsFault}
use Rattle.dv_shelf.specs.Sees.{SeesFolder}

-- What a crash during a run may leave: the folder as it was, where it had no mailbox; or the log
-- behind some of the lines, or, where the disk failed the next one, that with its group.
abbrev pub MayLeave : (ℕ → ℕ) → Log → List Attempt → Folder → Folder → Type 0
MayLeave clock start attempts old c =
    (IsNew old × (c ≡ old)) ⊎ MayGive clock start attempts c

-- What is left of a folder that isn't opened, or is while one is made: it opens to what it did, and
-- its files but the log are as they were; or, where it had no mailbox, that was made.
abbrev pub IsUnopened : (ℕ → ℕ) → Folder → Folder → Type 0
IsUnopened clock old c = IsQuiet old c ⊎ (IsNew old × IsOldOrCreated old (clock 0) c)

-- No line was answered: a fault was found in the folder, memory ran out, or the disk failed; and
-- what is left then, which is settled unless the disk failed, and what a crash leaves. Where this
-- run might begin, so may a next one.
pub record LeavesUnopened {S : Type 0} (sees : SeesFolder S) (clock : ℕ → ℕ) (f : OpenFault)
    (old new : S) : Type 0 where
  pub found : FaultFound f (IsFound (sees.files old))
  pub some : IsFault f → IsNew (sees.files old) → ⊥
  pub folder : IsUnopened clock (sees.files old) (sees.files new)
  pub after : (c : Folder) → sees.may_leave new c → IsUnopened clock (sees.files old) c
  pub crash : LeavesOnly sees old new (IsUnopened clock (sees.files old))
  pub next : IsTrueFolder (sees.files old) → LeavesTrue sees old new
  pub settled : UnlessDisk {A = Chain} (Err f) (IsSettled sees new)
