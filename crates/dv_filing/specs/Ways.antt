-- What comes before a group's own files: what is owed is paid, and a long log rotated. The records
-- take what a shelf shows.
use Rattle.std.specs.Prelude.{◌≡◌, ◌⊎◌, ℕ, List, Option, IsSome, Result, OnErr, OnOk}
use Rattle.dv_model.specs.declared.types.Mailbox.{Mailbox}
use Rattle.dv_shelf.specs.Crashes.{LeavesOnly}
use Rattle.dv_shelf.specs.Folders.{Folder}
use Rattle.dv_shelf.specs.Sees.{SeesFolder}
use Rattle.dv_chain.specs.declared.chain.Chain.{Chain}
use Rattle.dv_chain.specs.Rest.{Last, Nothing, Owed, next_mark}
use Rattle.dv_files.specs.declared.texts.Turn.{Turn}
use Rattle.dv_writing.specs.Ways.{Held}
use Rattle.dv_filing.specs.Standing.{Fits, Gives, MayGive, Stands}
use Rattle.dv_maps.specs.Texts.{Messages}

-- the map at its place, or with what was owed; or, where the log is rotated, at the first place of
-- the new file
abbrev pub MayGiveOn : Messages → Owed → Option Turn → Chain → Folder → Type 0
MayGiveOn messages owed turn chain c =
    MayGive messages owed chain c
    ⊎ (IsSome turn × Gives messages chain.indexid chain.live.mailbox (next_mark chain) c)

-- behind an error what was owed still is; or that is paid, and nothing is owed, or the last replace
-- of the rotation
abbrev pub IsOwedOnWay : Owed → Mailbox → Owed → Type 0
IsOwedOnWay owed m now =
    (now ≡ owed) ⊎ (now ≡ Nothing) ⊎ ((log : List ℕ) × (now ≡ Last log m))

-- From rest to rest: behind Ok nothing is owed, behind an error what is left says. A crash at any
-- moment leaves a folder that gives the map, or that with what was owed.
pub record MakesWayQuietly {S : Type 0} (sees : SeesFolder S) (messages : Messages) (owed : Owed)
    (turn : Option Turn) (old new : Held S) {T E : Type 0} (result : Result T E) : Type 0 where
  pub since : LeavesOnly sees old.shelf new.shelf (MayGiveOn messages owed turn old.chain)
  pub ok : OnOk result (Stands sees messages Nothing new.chain new.shelf)
  pub err : OnErr result ((now : Owed)
      × IsOwedOnWay owed old.chain.live.mailbox now
      × Fits new.owed new.chain.live.mailbox now × Stands sees messages now new.chain new.shelf)
