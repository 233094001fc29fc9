-- Calls of which no fault was counted leave a settled shelf settled.
use Rattle.std.proofs.Common.{◌≡◌, ◌≤◌, ◌∙◌, ℕ, List, length, Some, Result, Ok, Err, sym, ap, subst, arith}
use Rattle.dv_model.specs.Counts.{Rose}
use Rattle.dv_shelf.specs.declared.shelf.Name.TheVariants.{Log}
use Rattle.dv_shelf.specs.Causes.{HasCause}
use Rattle.dv_shelf.specs.Crashes.{Follows, FollowsNone}
use Rattle.dv_shelf.specs.Folders.{ChangesOnly, Folder, TornFile, contents, patched}
use Rattle.dv_shelf.specs.Sees.{SeesFolder}
use Rattle.dv_shelf.proofs.FolderLemmas.{with_file_is}
use Rattle.dv_logfile.specs.Commits.{WritesSynced}
use Rattle.dv_logfile.specs.Settling.{StaysSettled}

module _ {S : Type 0} (sees : SeesFolder S) where
  -- a fault was counted
  pub rose_settled : (old new : S) → Rose (sees.fault_count old) (sees.fault_count new)
      → StaysSettled sees old new
  rose_settled old new rose = λ stayed settled. absurd (stayed rose)

  -- nothing was changed, and a crash leaves nothing more
  pub looked_settled : (old new : S) → sees.files new ≡ sees.files old
      → FollowsNone (sees.may_leave old) (sees.may_leave new) → StaysSettled sees old new
  looked_settled old new same none = λ stayed settled c may. settled c (none c may) ∙ sym same

  -- a step was made that has one outcome, in the files and in what a crash leaves
  pub stepped_settled : (old new : S) (step : Folder → Folder → Type 0)
      → Follows step (sees.may_leave old) (sees.may_leave new)
      → ((c : Folder) → step (sees.files old) c → c ≡ sees.files new) → StaysSettled sees old new
  stepped_settled old new step crash one = λ stayed settled c may.
      let from = crash c may in
      one c (subst (λ (d : Folder). step d c) (settled from.0 from.1) from.2)

  -- some calls, and then others
  pub settled_then : (old mid new : S) → sees.fault_count old ≤ sees.fault_count mid
      → sees.fault_count mid ≤ sees.fault_count new → StaysSettled sees old mid
      → StaysSettled sees mid new → StaysSettled sees old new
  settled_then old mid new first second one two = λ stayed settled.
      two (λ rose. stayed (omega (arith, first, rose)))
      (one (λ rose. stayed (omega (arith, second, rose))) settled)

  -- bytes were written into the log and synced
  pub synced_settled : {T E : Type 0} (at : ℕ) (bytes : List ℕ) (result : Result T E)
      (old new : S) → HasCause (sees.fault_count old) (sees.fault_count new) result
      → WritesSynced sees at bytes result old new → StaysSettled sees old new
  synced_settled at bytes (Err e) old new cause wrote = rose_settled old new cause.rose
  synced_settled at bytes (Ok done) old new cause wrote = λ stayed settled c may.
      let from = wrote.crash c may in
      let step = subst (λ (d : Folder). ChangesOnly Log (TornFile at (length bytes)) d c)
      (settled from.0 from.1) from.2 in
      let file = Some (patched (contents (sees.files old) Log) at bytes) in
      let here = wrote.durable c may ∙ ap (λ (d : Folder). d Log) wrote.ok in
      with_file_is (sees.files old) c Log file here step.others ∙ sym wrote.ok
