-- Some of the files that a crash may leave at an entry.
use Rattle.std.specs.Prelude.{◌≡◌, All}
use Rattle.dv_shelf.specs.declared.shelf.Name.{Name}
use Rattle.dv_shelf.specs.Disks.{Version, version_bytes}
use Rattle.dv_shelf.specs.Images.{IsFileImage, IsImageOfOne}
use Rattle.dv_system.specs.Entries.{At}
use Rattle.dv_system.specs.Disks.{Disk}
use Rattle.dv_memory_system.specs.declared.samples.Samples.{Samples}
use Rattle.dv_memory_system.specs.declared.state.State.{State}
use Rattle.dv_memory_system.specs.declared.state.States.{States}

-- the file as reads give it, and three that a crash may leave, of which that is one
pub record AreSamples (version : Version) (samples : Samples) : Type 0 where
  pub reads : samples.read ≡ version_bytes version
  pub read : IsFileImage version samples.read
  pub synced : IsFileImage version samples.synced
  pub torn : IsFileImage version samples.torn

-- those of the file that stands at an entry, and some of those that a crash may bring back
pub record IsShown (at : At) (state : State) : Type 0 where
  pub first : AreSamples at.first state.first
  pub others : All (IsImageOfOne at.others) state.others
  pub doubted : state.is_doubted ≡ at.is_doubted
  pub unsure : state.is_unsure ≡ at.is_unsure

-- the same at a name, and of the temporary file
pub record AreShown (name : Name) (disk : Disk) (states : States) : Type 0 where
  pub here : IsShown (disk.named name) states.here
  pub temporary : IsShown disk.temporary states.temporary
