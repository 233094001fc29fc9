-- What a rebuild leaves.
use Rattle.std.proofs.Common.{◌≡◌, inl, inr, ⊎_elim, ℕ, ◌^◌, ◌<◌, Bool, List, Some, refl, sym, ◌∙◌, ap, subst, Err}
use Rattle.std.specs.Prelude.{if◌then◌else◌}
use Rattle.std.proofs.lemmas.Bool.{leb-true}
use Rattle.dv_shelf.specs.declared.shelf.Name.TheVariants as name
use Rattle.dv_shelf.specs.Crashes.{LeavesOnly, Only}
use Rattle.dv_shelf.specs.Folders.{Folder, with_file}
use Rattle.dv_shelf.proofs.Moments.{weaker}
use Rattle.dv_logfile.specs.Layout.{last_end, log_end}
use Rattle.dv_openings.specs.Rebuilds.{rebuilt_text, records_of}
use Rattle.dv_chain.specs.Openings.{OnlyLooks}
use Rattle.dv_chain.proofs.Shelves.{looked_then}
use Rattle.dv_rebuild.specs.declared.fault.RebuildFault.{RebuildFault}
use Rattle.dv_rebuild.specs.declared.fault.RebuildFault.TheVariants as fault
use Rattle.dv_rebuild.specs.declared.planning.NewLog.{NewLog}
use Rattle.dv_rebuild.specs.declared.rebuilding.Rebuilt.{Rebuilt}
use Rattle.dv_rebuild.specs.Rebuilding.{IsOldOrPut, IsOldOrRebuilt, IsPrepared, IsRebuilt, LeavesPut, LeavesRebuilt, Rebuilds, UnlessDisk}
use Rattle.dv_rebuild.proofs.Opens.{rebuilt_opens}
use Rattle.dv_shelf.specs.Sees.{SeesFolder}

-- the fault alone says whether the disk failed
pub unless_so : (A B P : Type 0) (e : RebuildFault) → UnlessDisk {A = A} (Err e) P → UnlessDisk {A = B} (Err e) P
unless_so A B P fault.NoMemory is = is
unless_so A B P (fault.Disk faults) is = tt

module _ (old : Folder) (now : ℕ) (log : NewLog) (rebuilt : Rebuilt) (is : IsPrepared old now (log, rebuilt)) (clock : now < 2 ^ 32) where
  abbrev pub put_rebuilds : (new : Folder) → new ≡ with_file old name.Log (Some log.text) → IsRebuilt old now new
  put_rebuilds new put =
      let text : new ≡ with_file old name.Log (Some (rebuilt_text is.does)) = put ∙ ap (λ (t : List ℕ). with_file old name.Log (Some t)) is.text in
      record {
        does = is.does;
        is = is.is;
        fits = is.fits;
        leaves = text ∙ sym (ap (λ (b : Bool). if b then with_file old name.Log (Some (rebuilt_text is.does)) else old) is.fits);
        opens = rebuilt_opens old new now is.does is.is clock is.good is.records (leb-true (log_end (records_of is.does)) last_end is.fits) is.left text;
      }

  pub put_told : (new : Folder) → new ≡ with_file old name.Log (Some log.text) → Rebuilds old now new rebuilt
  put_told new put = record { made = put_rebuilds new put; tells = is.tells; reports = is.reports }

  pub either_rebuilt : (new : Folder) → IsOldOrPut old log.text new → IsOldOrRebuilt old now new
  either_rebuilt new step = ⊎_elim (λ same. inl same) (λ put. inr (put_rebuilds new put)) step

  pub fault_left : (new : Folder) (e : RebuildFault) → LeavesPut old log.text new (Err e) → LeavesRebuilt old now new (Err e)
  fault_left new fault.NoMemory leaves = absurd leaves
  fault_left new (fault.Disk n) leaves = either_rebuilt new leaves

module _ {S : Type 0} (sees : SeesFolder S) where
  pub rebuilt_since : (old mid new : S) (now : ℕ) (log : NewLog) (rebuilt : Rebuilt) → IsPrepared (sees.files old) now (log, rebuilt) → now < 2 ^ 32 → Only (sees.files old) (sees.may_leave old) → OnlyLooks sees old mid
      → LeavesOnly sees mid new (IsOldOrPut (sees.files mid) log.text) → LeavesOnly sees old new (IsOldOrRebuilt (sees.files old) now)
  rebuilt_since old mid new now log rebuilt is clock only looks since =
      looked_then sees old mid new (IsOldOrRebuilt (sees.files old) now) only (inl refl) looks
      (weaker sees mid new (IsOldOrPut (sees.files mid) log.text) (IsOldOrRebuilt (sees.files old) now) since
      (λ c step. either_rebuilt (sees.files old) now log rebuilt is clock c (subst (λ (d : Folder). IsOldOrPut d log.text c) looks.same step)))
