use Rattle.std.proofs.Common.{List, ℕ, subst}
use Rattle.std.specs.Prelude.{IfOk}
use Rattle.dv_system.specs.Disks.{changed}
use Rattle.dv_memory_system.specs.Steps.{change_at}
use Rattle.dv_memory_system.specs.States.{AreShown}
use Rattle.dv_memory_system.proofs.Shown.{parent_shown}
use Rattle.dv_memory_system.proofs.state.States.then.Goals as goal

pub returns-in-FoundFolder : goal.returns-in-FoundFolder
returns-in-FoundFolder c = λ disk are. rw c.in-FoundFolder.is (record { here = are.here; temporary = are.temporary })

pub returns-in-MakeFolder : goal.returns-in-MakeFolder
returns-in-MakeFolder c = λ disk are. rw c.in-MakeFolder.is (record { here = are.here; temporary = are.temporary })

pub returns-in-SyncParent : goal.returns-in-SyncParent
returns-in-SyncParent c = λ disk are. rw c.in-SyncParent.is (parent_shown c.in-SyncParent.is_done c.args.step.now.bytes c.args.name disk c.args.self are)

pub returns-in-SyncFolder : goal.returns-in-SyncFolder
returns-in-SyncFolder c = λ disk are. rw c.in-SyncFolder.is (c.folder_synced.ensures disk c.args.name c.args.step.now.bytes are)

pub returns-in-Rename : goal.returns-in-Rename
returns-in-Rename c = λ disk are. rw c.in-Rename.is (c.renamed.ensures disk are)

pub returns-in-File : goal.returns-in-File
returns-in-File c = λ disk are.
    rw c.in-File.is
    (subst (λ (b : List ℕ). IfOk c.changed.result (AreShown c.args.name (changed (change_at c.in-File.change b) disk c.in-File.entry))) c.as_slice.ensures (c.changed.ensures disk are))
