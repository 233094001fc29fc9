-- What is found in the folders that a checkpoint and a rotation leave, at any moment and behind
-- them. The records take what a shelf shows.
use Rattle.std.specs.Prelude.{◌⊎◌, ℕ, Result, Ok, Err, OnOk}
use Rattle.dv_shelf.specs.Crashes.{LeavesOnly}
use Rattle.dv_shelf.specs.Folders.{Folder}
use Rattle.dv_openings.specs.Numbers.{OpensAs}
use Rattle.dv_openings.specs.Openings.{Finds}
use Rattle.dv_chain.specs.declared.chain.Chain.{Chain}
use Rattle.dv_chain.specs.Openings.{found_of}
use Rattle.dv_chain.specs.Rest.{Last, Nothing, Rests, next_mark}
use Rattle.dv_files.specs.declared.fault.TurnEnd.{TurnEnd}
use Rattle.dv_files.specs.declared.fault.TurnEnd.TheVariants as end
use Rattle.dv_files.specs.declared.texts.Turn.{Turn}
use Rattle.dv_shelf.specs.Sees.{SeesFolder}

-- the folder opens to the chain's mailbox, of its number, at its place
abbrev pub Opens : Chain → Folder → Type 0
Opens chain c = OpensAs c chain.indexid (found_of chain)

-- or at the first place of the next file
abbrev pub OpensEither : Chain → Folder → Type 0
OpensEither chain c =
    Opens chain c ⊎ OpensAs c chain.indexid (Finds chain.live.mailbox (next_mark chain))

-- at any moment a crash leaves a folder that opens to the chain's mailbox at its place; behind it
-- the chain is at rest
pub record StaysAtRest {S : Type 0} (sees : SeesFolder S) (chain : Chain) (old new : S) : Type 0 where
  pub since : LeavesOnly sees old new (Opens chain)
  pub rests : Rests sees Nothing chain new

-- behind Ok and Before nothing is owed, behind Last the last replace
abbrev pub RestsTurned : {S : Type 0} → SeesFolder S → Turn → Chain → S → {T : Type 0}
    → Result T TurnEnd → Type 0
RestsTurned sees turn chain shelf (Ok x) = Rests sees Nothing chain shelf
RestsTurned sees turn chain shelf (Err end.Before) = Rests sees Nothing chain shelf
RestsTurned sees turn chain shelf (Err end.Last) =
    Rests sees (Last turn.new chain.live.mailbox) chain shelf

-- at any moment of a rotation a crash leaves a folder that opens to the same mailbox, and behind Ok
-- in the new file; behind it the chain is at rest
pub record TurnsQuietly {S : Type 0} (sees : SeesFolder S) (turn : Turn) (chain new_chain : Chain) {T : Type 0}
    (result : Result T TurnEnd) (old new : S) : Type 0 where
  pub since : LeavesOnly sees old new (OpensEither chain)
  pub found : OnOk result ((c : Folder) → sees.may_leave new c → Opens new_chain c)
  pub rests : RestsTurned sees turn new_chain new result

-- behind Ok nothing is owed, behind an error still the last replace
abbrev pub RestsFinished : {S : Type 0} → SeesFolder S → Turn → Chain → S
    → {T E : Type 0} → Result T E → Type 0
RestsFinished sees turn chain shelf (Ok x) = Rests sees Nothing chain shelf
RestsFinished sees turn chain shelf (Err e) =
    Rests sees (Last turn.new chain.live.mailbox) chain shelf

-- the same of the last replace, made again
pub record FinishesQuietly {S : Type 0} (sees : SeesFolder S) (turn : Turn) (chain new_chain : Chain)
    {T E : Type 0} (result : Result T E) (old new : S) : Type 0 where
  pub since : LeavesOnly sees old new (OpensEither chain)
  pub found : OnOk result ((c : Folder) → sees.may_leave new c → Opens new_chain c)
  pub rests : RestsFinished sees turn new_chain new result
