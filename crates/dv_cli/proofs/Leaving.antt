-- A next run may begin from what a run leaves.
use Rattle.std.proofs.Common.{⊎_elim, ℕ, List, sym, subst}
use Rattle.dv_model.specs.Journals.{Log}
use Rattle.dv_shelf.specs.Crashes.{LeavesOnly}
use Rattle.dv_shelf.specs.Folders.{Folder, IsNew}
use Rattle.dv_shelf.proofs.Moments.{weaker}
use Rattle.dv_playing.specs.Playing.{Attempt}
use Rattle.dv_serving.specs.NextRuns.{IsTrueFolder, LeavesTrue}
use Rattle.dv_serial.specs.Places.{GivesBehind}
use Rattle.dv_serial.proofs.NextRuns.{behind_true, may_true}
use Rattle.dv_beginning.specs.Leaving.{MayLeave}
use Rattle.dv_beginning.proofs.TrueFolders.{new_true}
use Rattle.dv_shelf.specs.Sees.{SeesFolder}

-- what a crash may leave of a run over lines
may_leave_true : (clock : ℕ → ℕ) (start : Log) (attempts : List Attempt) (old c : Folder) → MayLeave clock start attempts old c → IsTrueFolder c
may_leave_true clock start attempts old c may = ⊎_elim (λ new. new_true c (subst IsNew (sym new.1) new.0)) (may_true clock start attempts c) may

-- so a next run may begin from what is left behind lines, and from what a crash leaves
pub leaves_next : {S : Type 0} (sees : SeesFolder S) (clock : ℕ → ℕ) (start : Log) (attempts : List Attempt) (old new : S)
    → sees.may_leave new (sees.files new) → ((c : Folder) → sees.may_leave new c → GivesBehind clock start attempts c) → LeavesOnly sees old new (MayLeave clock start attempts (sees.files old)) → LeavesTrue sees old new
leaves_next sees clock start attempts old new there kept crash = record {
  seen = behind_true clock start attempts (sees.files new) (kept (sees.files new) there);
  after = λ c left. behind_true clock start attempts c (kept c left);
  crash = weaker sees old new (MayLeave clock start attempts (sees.files old)) IsTrueFolder crash (λ c may. may_leave_true clock start attempts (sees.files old) c may);
}
