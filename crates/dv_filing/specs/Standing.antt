-- A storage at rest: what is owed before its next write, and what a crash may leave of its folder.
-- The records take what a shelf shows.
use Rattle.std.specs.Prelude.{◌≡◌, ◌⊎◌, ℕ, List, Option, Some, None, Result, OnErr, OnOk, ⊤}
use Rattle.dv_model.specs.declared.types.Mailbox.{Mailbox}
use Rattle.dv_model.specs.declared.types.Mark.{Mark}
use Rattle.dv_shelf.specs.Crashes.{LeavesOnly}
use Rattle.dv_shelf.specs.Folders.{Folder}
use Rattle.dv_shelf.specs.Sees.{SeesFolder}
use Rattle.dv_openings.specs.Numbers.{OpensAs}
use Rattle.dv_openings.specs.Openings.{Finds}
use Rattle.dv_chain.specs.declared.chain.Chain.{Chain}
use Rattle.dv_chain.specs.Rest.{Last, Nothing, Owed, Pending, Rests, next_mark}
use Rattle.dv_files.specs.declared.texts.Turn.{Turn}
use Rattle.dv_files.specs.Texts.{place_of}
use Rattle.dv_writing.specs.Opening.{mark_behind}
use Rattle.dv_maps.specs.Texts.{KeepsTexts, Messages}

-- the folder opens to this map at this mark, of this number, and has the texts of its messages
pub record Gives (messages : Messages) (indexid : ℕ) (m : Mailbox) (mark : Mark) (c : Folder)
    : Type 0 where
  pub opens : OpensAs c indexid (Finds m mark)
  pub keeps : KeepsTexts messages m c

-- a folder keeps the texts of the map that is owed, too
abbrev pub KeepsOwed : Messages → Owed → Folder → Type 0
KeepsOwed messages Nothing c = ⊤
KeepsOwed messages (Pending text after) c = KeepsTexts messages after c
KeepsOwed messages (Last log after) c = KeepsTexts messages after c

-- the turn that is owed is that of the debt, over the same map
abbrev pub Fits : Option Turn → Mailbox → Owed → Type 0
Fits None m Nothing = ⊤
Fits None m (Pending text after) = ⊤
Fits None m (Last log after) = ⊥
Fits (Some turn) m Nothing = ⊥
Fits (Some turn) m (Pending text after) = ⊥
Fits (Some turn) m (Last log after) = (turn.new ≡ log) × (after ≡ m)

-- the debt of a turn whose last replace is owed, or of none
abbrev pub owed_of : Option Turn → Mailbox → Owed
owed_of None m = Nothing
owed_of (Some turn) m = Last turn.new m

-- A storage is at rest: its chain is, and each folder that a crash now may leave keeps the texts of
-- its map, and of that with what is owed.
pub record Stands {S : Type 0} (sees : SeesFolder S) (messages : Messages) (owed : Owed)
    (chain : Chain) (shelf : S) : Type 0 where
  pub rests : Rests sees owed chain shelf
  pub keeps : (c : Folder) → sees.may_leave shelf c → KeepsTexts messages chain.live.mailbox c
  pub pending : (c : Folder) → sees.may_leave shelf c → KeepsOwed messages owed c

-- What a crash leaves gives the map at its place, or with the pending group behind it, or at the
-- first place of the new file.
abbrev pub MayGive : Messages → Owed → Chain → Folder → Type 0
MayGive messages Nothing chain c =
    Gives messages chain.indexid chain.live.mailbox (place_of chain) c
MayGive messages (Pending text after) chain c =
    Gives messages chain.indexid chain.live.mailbox (place_of chain) c
    ⊎ Gives messages chain.indexid after (mark_behind text chain) c
MayGive messages (Last log after) chain c =
    Gives messages chain.indexid chain.live.mailbox (place_of chain) c
    ⊎ Gives messages chain.indexid after (next_mark chain) c

-- A repair goes from rest to rest: behind Ok nothing is owed, behind an error the same as before. A
-- crash at any moment leaves a folder that gives the map, or that with what is owed.
pub record PaysQuietly {S : Type 0} (sees : SeesFolder S) (messages : Messages) (owed : Owed)
    (chain new_chain : Chain) {T E : Type 0} (result : Result T E) (old new : S) : Type 0 where
  pub since : LeavesOnly sees old new (MayGive messages owed chain)
  pub ok : OnOk result (Stands sees messages Nothing new_chain new)
  pub err : OnErr result (Stands sees messages owed new_chain new)

-- So does a rotation, and then the kept turn is owed. A crash at any moment leaves a folder that
-- gives the map, at its place or at the first place of the new file.
pub record TurnsQuietly {S : Type 0} (sees : SeesFolder S) (messages : Messages) (turn : Turn)
    (left : Option Turn) (chain new_chain : Chain) (old new : S) : Type 0 where
  pub since : LeavesOnly sees old new
      (MayGive messages (Last turn.new chain.live.mailbox) chain)
  pub stands : Stands sees messages (owed_of left chain.live.mailbox) new_chain new
