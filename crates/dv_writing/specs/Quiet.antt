-- A call that a crash may cut short anywhere without a change of what the folder gives. It takes
-- what a shelf shows.
use Rattle.std.specs.Prelude.{ℕ}
use Rattle.dv_model.specs.Journals.{Log}
use Rattle.dv_shelf.specs.Crashes.{LeavesOnly}
use Rattle.dv_shelf.specs.Folders.{Folder}
use Rattle.dv_chain.specs.declared.chain.Chain.{Chain}
use Rattle.dv_writing.specs.Debts.{MayGive, Nothing, Stands}
use Rattle.dv_shelf.specs.Sees.{SeesFolder}

-- At any moment a crash leaves a folder that gives the chain's mailbox at its place. Behind the
-- call the store is at rest and owes nothing, whatever was answered.
pub record IsQuiet {S : Type 0} (sees : SeesFolder S) (log : Log) (chain : Chain) (old new : S) : Type 0 where
  pub any_moment : LeavesOnly sees old new (MayGive log Nothing chain)
  pub stands : Stands sees log Nothing chain new
