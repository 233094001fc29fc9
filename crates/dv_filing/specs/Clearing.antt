-- Message files that a map doesn't need are removed. The records take what a shelf shows.
use Rattle.std.specs.Prelude.{ℕ, ◌≤◌, List, Contains}
use Rattle.dv_model.specs.declared.types.Mailbox.{Mailbox}
use Rattle.dv_model.specs.declared.types.Row.{Row}
use Rattle.dv_shelf.specs.Crashes.{LeavesOnly}
use Rattle.dv_shelf.specs.Sees.{SeesFolder}
use Rattle.dv_chain.specs.declared.chain.Chain.{Chain}
use Rattle.dv_chain.specs.Rest.{Nothing}
use Rattle.dv_filing.specs.Standing.{MayGive, Stands}
use Rattle.dv_maps.specs.Maps.{row_count, row_place}
use Rattle.dv_maps.specs.Texts.{Messages}

-- a row with references names one of these files
abbrev pub Needs : Mailbox → List ℕ → Type 0
Needs m files =
    (row : Row) × Contains m.rows row × (1 ≤ row_count m row)
    × Contains files (row_place m row).file

-- From rest to rest, where nothing is owed. A crash at any moment leaves a folder that gives the
-- map.
pub record ClearsQuietly {S : Type 0} (sees : SeesFolder S) (messages : Messages) (chain : Chain)
    (old new : S) : Type 0 where
  pub since : LeavesOnly sees old new (MayGive messages Nothing chain)
  pub stands : Stands sees messages Nothing chain new
