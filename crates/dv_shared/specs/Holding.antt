-- What holds whenever the lock is free. The records take what a shelf shows.
use Rattle.std.specs.Prelude.{◌≡◌, ◌≤◌, ℕ, length}
use Rattle.dv_model.specs.Counts.{RoseBy}
use Rattle.dv_model.specs.Journals.{Log}
use Rattle.dv_shelf.specs.Causes.{Stayed}
use Rattle.dv_shelf.specs.Crashes.{IsSettled}
use Rattle.dv_shelf.specs.Folders.{Folder}
use Rattle.dv_shelf.specs.Sees.{SeesFolder}
use Rattle.dv_tries.specs.Images.{LeavesSince}
use Rattle.dv_tries.specs.Standing.{RestsBehind, StandsBehind}
use Rattle.dv_tries.specs.Tries.{MayGive}
use Rattle.dv_shared.specs.Kept.{Kept, Locked, notes_in}

module _ {S C : Type 0} where
  -- The shelf tells its files. The store rests behind the notes and the tries, and since the run
  -- began a crash has left a front of the notes, or that with the group of a try.
  pub record HoldsFolder (sees : SeesFolder S) (tells : Type 0) (start : Log) (moment : ℕ)
      (past : ℕ → Folder → Type 0) (k : Kept S C) : Type 0 where
    pub told : sees.tells
    pub rests : RestsBehind sees tells start (notes_in k) k.tries k.store
    pub since : LeavesSince sees moment past k.store.shelf
        (MayGive tells start (notes_in k) k.tries)

  -- over any shelf: the store has the mailbox at the end of the notes, which are counted
  pub record Holds (sees : SeesFolder S) (tells : Type 0) (start : Log) (moment : ℕ)
      (past : ℕ → Folder → Type 0) (honest : Type 0) (k : Kept S C) : Type 0 where
    pub stands : StandsBehind start (notes_in k) k.store
    pub counted : k.count ≡ length (notes_in k)
    pub folder : honest → HoldsFolder sees tells start moment past k

  -- The sessions together have written the notes, and the disk has failed no fewer calls than
  -- commands were answered so, of which the tries are some.
  pub record Balances (sees : SeesFolder S) (count : ℕ) (wrote : ℕ) (l : Locked S C) : Type 0 where
    pub wrote_all : wrote ≡ length (notes_in l.kept)
    pub few : RoseBy l.refused count (sees.fault_count l.kept.store.shelf)
    pub tries : length l.kept.tries ≤ l.refused

  -- where the shelf has counted no failure since the run began, it is settled
  abbrev pub KeepsSettled : SeesFolder S → ℕ → Type 0 → Kept S C → Type 0
  KeepsSettled sees count honest k = honest → Stayed count (sees.fault_count k.store.shelf)
      → IsSettled sees k.store.shelf
