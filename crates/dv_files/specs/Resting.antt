-- What writing and removing message files leaves of the rest of a folder. It takes what a shelf
-- shows.
use Rattle.std.specs.Prelude.{ℕ}
use Rattle.dv_shelf.specs.Crashes.{LeavesOnly}
use Rattle.dv_shelf.specs.Folders.{Folder}
use Rattle.dv_chain.specs.declared.chain.Chain.{Chain}
use Rattle.dv_chain.specs.Rest.{IsResting, Owed, Rests}
use Rattle.dv_shelf.specs.Sees.{SeesFolder}

-- From rest to rest, whatever the chain owes; so is each folder that a crash leaves at any moment.
pub record KeepsRest {S : Type 0} (sees : SeesFolder S) (owed : Owed) (chain : Chain) (old new : S)
    : Type 0 where
  pub rests : Rests sees owed chain new
  pub since : LeavesOnly sees old new (IsResting owed chain)
