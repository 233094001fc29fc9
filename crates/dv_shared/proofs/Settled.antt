-- A shelf that was settled when the run began stays so, where it counts no failure.
use Rattle.std.proofs.Common.{ℕ, ◌≤◌}
use Rattle.dv_model.specs.Counts.{RoseBy}
use Rattle.dv_model.specs.Journals.{Log}
use Rattle.dv_shelf.specs.Folders.{Folder}
use Rattle.dv_shelf.specs.Sees.{SeesFolder}
use Rattle.dv_logfile.specs.Settling.{StaysSettled}
use Rattle.dv_logfile.proofs.Settling.{looked_settled}
use Rattle.dv_serving.proofs.Counting.{rose_more, rose_since}
use Rattle.dv_store.specs.Rest.{OnlyReads}
use Rattle.dv_store.specs.States.{State}
use Rattle.dv_shared.specs.Holding.{Holds, KeepsSettled}
use Rattle.dv_shared.specs.Kept.{Kept}

module _ {S C : Type 0} (sees : SeesFolder S) (tells : Type 0) (start : Log) (moment : ℕ) (past : ℕ → Folder → Type 0) (honest : Type 0) (count refused : ℕ) (old : Kept S C) (holds : Holds sees tells start moment past honest old) (few : RoseBy refused count (sees.fault_count old.store.shelf)) (so_far : KeepsSettled sees count honest old) where
  -- behind calls that leave it so
  pub settled_on : (new : Kept S C) → sees.fault_count old.store.shelf ≤ sees.fault_count new.store.shelf → (sees.tells → StaysSettled sees old.store.shelf new.store.shelf) → KeepsSettled sees count honest new
  settled_on new later stays h stayed =
      stays (holds.folder h).told (λ rose. stayed (rose_since refused count (sees.fault_count old.store.shelf) (sees.fault_count new.store.shelf) few rose))
      (so_far h (λ rose. stayed (rose_more 1 count (sees.fault_count old.store.shelf) (sees.fault_count new.store.shelf) rose later)))

  -- behind a look
  pub settled_looked : (store : State S C) → sees.fault_count old.store.shelf ≤ sees.fault_count store.shelf → (sees.tells → OnlyReads sees old.store store) → KeepsSettled sees count honest (record old { store = store })
  settled_looked store later reads =
      settled_on (record old { store = store }) later (λ told. let looks = (reads told).looks in looked_settled sees old.store.shelf store.shelf looks.same looks.crash)
