use Rattle.std.proofs.Common.{List, ℕ, Result, Ok, Err, OnOk, refl}
use Rattle.dv_shelf.specs.Folders.{Folder}
use Rattle.dv_files.specs.Writing.{IsSwept, Sweeps}
use Rattle.dv_mdbox.proofs.Thinning.{outcome_failure, outcome_ok, quiet_cleared}
use Rattle.dv_mdbox.proofs.storage.Storage.clear_files.Goals as goal

swept_ok : {T F : Type 0} (files : List ℕ) (done : Result T F) (old new : Folder) → Sweeps files done old new → OnOk done (IsSwept files old new)
swept_ok files (Ok x) old new is = is
swept_ok files (Err e) old new is = tt

pub returns-clause-gives : goal.returns-clause-gives
returns-clause-gives g c = rw (← c.self.view_is) (λ tells messages free rest.
    quiet_cleared g.S.Shelf.sees messages c.thinnings_are.ensures _ _ (record { clock = refl; chain = refl; owed = refl; start = refl; entries = refl; mark = refl; tail = refl }) (c.clear-cleared.ensures.quiet tells messages _ free rest.stands) rest c.outcome.result)

pub returns-clause-gone : goal.returns-clause-gone
returns-clause-gone g c = rw (← c.self.view_is) (λ tells. outcome_ok _ _ c.clear-cleared.result c.outcome.result c.outcome.ensures (swept_ok c.args.files.now c.clear-cleared.result _ _ (c.clear-cleared.ensures.leaves tells).seen))

pub returns-clause-err : goal.returns-clause-err
returns-clause-err g c = outcome_failure _ c.clear-cleared.result c.outcome.result c.outcome.ensures
