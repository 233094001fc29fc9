-- What opening leaves.
use Rattle.std.proofs.Common.{◌≡◌, inl, ℕ, Some, refl, sym, ◌∙◌, ap, subst, Option, List, Err}
use Rattle.dv_model.specs.declared.types.OpenFault.{OpenFault}
use Rattle.dv_model.specs.declared.types.OpenFault.TheVariants as fault
use Rattle.dv_shelf.specs.declared.shelf.Name.TheVariants as name
use Rattle.dv_shelf.specs.Crashes.{LeavesOnly, Only}
use Rattle.dv_shelf.specs.Folders.{Folder}
use Rattle.dv_shelf.proofs.Moments.{weaker}
use Rattle.dv_logfile.specs.declared.commit.Debt.TheVariants as debt
use Rattle.dv_logfile.specs.Scans.{Good, IsScanned}
use Rattle.dv_chain.specs.declared.chain.Chain.{Chain}
use Rattle.dv_chain.specs.declared.file.File.{File}
use Rattle.dv_chain.specs.Files.{good_file}
use Rattle.dv_chain.specs.Openings.{IsChainOf, IsLogOf, IsMended, IsQuiet, LeavesFolder, LeavesMended, OnlyLooks}
use Rattle.dv_chain.proofs.Mended.{quiet}
use Rattle.dv_chain.proofs.Shelves.{looked_then}
use Rattle.dv_shelf.specs.Sees.{SeesFolder}

pub chain_of : (folder : Folder) (log : File) (is : IsLogOf folder log) (chain : Chain) → chain.log.file_seq ≡ log.header.file_seq → chain.log.end ≡ log.end → chain.log.count ≡ log.count → chain.log.debt ≡ debt.None
    → chain.indexid ≡ log.header.indexid → chain.records ≡ log.header.initial_modseq → IsChainOf folder chain
chain_of folder log is chain seq end count debt indexid records = record {
  file = good_file log is.spots;
  scanned = subst (λ (x : Option (List ℕ)). IsScanned x (Good (good_file log is.spots))) (sym is.file) is.has.good;
  seq = seq;
  end = end;
  count = count ∙ is.has.count;
  debt = debt;
  indexid = indexid;
  records = records;
}

pub fault_leaves : (old new : Folder) (log : File) (is : IsLogOf old log) (e : OpenFault) → LeavesMended old log new (Err e) → LeavesFolder old new (Err e)
fault_leaves old new log is fault.NoMemory leaves = leaves
fault_leaves old new log is (fault.Disk n) leaves = quiet old new log is leaves
fault_leaves old new log is fault.NoLog leaves = absurd leaves
fault_leaves old new log is fault.BadLogHeader leaves = absurd leaves
fault_leaves old new log is (fault.BadRecord offset) leaves = absurd leaves
fault_leaves old new log is fault.BadIndex leaves = absurd leaves
fault_leaves old new log is (fault.Gap index mark) leaves = absurd leaves

module _ {S : Type 0} (sees : SeesFolder S) where
  pub opened_quiet : (old mid new : S) (log : File) (is : IsLogOf (sees.files old) log) → Only (sees.files old) (sees.may_leave old) → OnlyLooks sees old mid
      → LeavesOnly sees mid new (IsMended (sees.files mid) log) → LeavesOnly sees old new (IsQuiet (sees.files old))
  opened_quiet old mid new log is only looks since =
      looked_then sees old mid new (IsQuiet (sees.files old)) only (quiet (sees.files old) (sees.files old) log is (inl refl)) looks
      (weaker sees mid new (IsMended (sees.files mid) log) (IsQuiet (sees.files old)) since
      (λ c mend. quiet (sees.files old) c log is (subst (λ (d : Folder). IsMended d log c) looks.same mend)))

  -- the log is there behind the looks
  pub still_there : (old mid : S) (log : File) → IsLogOf (sees.files old) log → OnlyLooks sees old mid → sees.files mid name.Log ≡ Some log.bytes
  still_there old mid log is looks = ap (λ (d : Folder). d name.Log) looks.same ∙ is.file
