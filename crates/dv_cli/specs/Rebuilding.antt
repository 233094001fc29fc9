-- A run that rebuilds its folder. The records take what a shelf shows.
use Rattle.std.specs.Prelude.{◌≡◌, ℕ, Result, Ok, Err}
use Rattle.dv_model.specs.declared.types.OpenFault.TheVariants as open_fault
use Rattle.dv_shelf.specs.Clocks.{behind}
use Rattle.dv_shelf.specs.Crashes.{IsSettled, LeavesOnly}
use Rattle.dv_rebuild.specs.declared.fault.RebuildFault.{RebuildFault}
use Rattle.dv_rebuild.specs.declared.fault.RebuildFault.TheVariants as fault
use Rattle.dv_rebuild.specs.declared.rebuilding.Rebuilt.{Rebuilt}
use Rattle.dv_rebuild.specs.Rebuilding.{IsOldOrRebuilt, LeavesRebuilt, UnlessDisk}
use Rattle.dv_cli.specs.Spans.{Times}
use Rattle.dv_cli.specs.declared.ending.End.{End}
use Rattle.dv_cli.specs.declared.ending.End.TheVariants as end
use Rattle.dv_notices.specs.declared.telling.Told.{Told}
use Rattle.dv_notices.specs.declared.telling.Told.TheVariants as told
use Rattle.dv_shelf.specs.Sees.{SeesFolder}

-- how a rebuild ends a run
abbrev pub rebuilt_end : Result Rebuilt RebuildFault → End
rebuilt_end (Ok rebuilt) = end.Rebuilt rebuilt.kept rebuilt.skipped
rebuilt_end (Err fault.NoMemory) = end.NoMemory
rebuilt_end (Err (fault.Disk faults)) = end.Unopened (open_fault.Disk faults)

-- what is told of a rebuild beside the output
abbrev pub rebuilt_told : Result Rebuilt RebuildFault → Told
rebuilt_told (Ok rebuilt) = told.Rebuilt rebuilt
rebuilt_told (Err fault) = told.Nothing

-- The folder is rebuilt at a reading, which is the clock's next where it tells, or why it isn't is
-- told. A crash at any moment leaves it as it was or rebuilt; and behind it only what is read, unless
-- the disk failed.
pub record RebuildsFolder {S : Type 0} (sees : SeesFolder S) (times : Times) (e : End)
    (said : Told) (old new : S) : Type 0 where
  pub result : Result Rebuilt RebuildFault
  pub told : e ≡ rebuilt_end result
  pub report : said ≡ rebuilt_told result
  pub now : ℕ
  pub clock : times.told → now ≡ times.clock 0
  pub leaves : LeavesRebuilt (sees.files old) now (sees.files new) result
  pub crash : LeavesOnly sees old new (IsOldOrRebuilt (sees.files old) now)
  pub settled : UnlessDisk result (IsSettled sees new)
  pub readings : times.told → times.clock_now ≡ behind times.clock 1
