-- What is found, by the files that were read.
use Rattle.std.proofs.Common.{◌≡◌, ℕ, true, false, Bool, List, Option, Some, None, Result, Ok, Err, refl, sym, ◌∙◌, ap, subst}
use Rattle.std.specs.Prelude.{if◌then◌else◌, IfErr}
use Rattle.dv_model.specs.declared.types.OpenFault.{OpenFault}
use Rattle.dv_model.specs.declared.types.OpenFault.TheVariants as fault
use Rattle.dv_shelf.specs.declared.shelf.Name.TheVariants as name
use Rattle.dv_shelf.specs.Folders.{Folder}
use Rattle.dv_logfile.specs.Scans.{BadHeader, BadSpot, Good, IsGood, IsScanned, Missing, Spot}
use Rattle.dv_openings.specs.Openings.{Found, IsFound, NoLog, from_either, joining, joins}
use Rattle.dv_apply.specs.States.{Held}
use Rattle.dv_chain.specs.declared.file.File.{File}
use Rattle.dv_chain.specs.declared.opening.Files.{Files}
use Rattle.dv_chain.specs.Files.{HasSpots, ReadsFile, good_file, snapshot_in}
use Rattle.dv_chain.specs.Openings.{AreFilesOf, FaultFound, IsEndOf, IsRotatedOf, Joins}

-- ---- faults

pub fault_weaker : (e : OpenFault) (P Q : Found → Type 0) → ((f : Found) → P f → Q f) → FaultFound e P → FaultFound e Q
fault_weaker fault.NoLog P Q also is = also _ is
fault_weaker fault.BadLogHeader P Q also is = also _ is
fault_weaker (fault.BadRecord offset) P Q also is = also _ is
fault_weaker fault.BadIndex P Q also is = also _ is
fault_weaker (fault.Gap index log) P Q also is = also _ is
fault_weaker fault.NoMemory P Q also is = tt
fault_weaker (fault.Disk n) P Q also is = tt

pub no_log : (folder : Folder) → folder name.Log ≡ None → IsFound folder NoLog
no_log folder none = record {
  log = Missing;
  rotated = Missing;
  index = None;
  log_file = subst (λ (x : Option (List ℕ)). IsScanned x Missing) (sym none) tt;
  rotated_file = tt;
  index_file = tt;
  is = refl;
}

pub log_fault : (folder : Folder) (b : List ℕ) (result : Result File OpenFault) → folder name.Log ≡ Some b → ReadsFile b result → IfErr result (λ e. FaultFound e (IsFound folder))
log_fault folder b (Ok file) there reads = tt
log_fault folder b (Err fault.NoMemory) there reads = tt
log_fault folder b (Err fault.BadLogHeader) there reads = record {
  log = BadHeader;
  rotated = Missing;
  index = None;
  log_file = subst (λ (x : Option (List ℕ)). IsScanned x BadHeader) (sym there) reads;
  rotated_file = tt;
  index_file = tt;
  is = refl;
}
log_fault folder b (Err (fault.BadRecord offset)) there reads = record {
  log = BadSpot offset;
  rotated = Missing;
  index = None;
  log_file = subst (λ (x : Option (List ℕ)). IsScanned x (BadSpot offset)) (sym there) reads;
  rotated_file = tt;
  index_file = tt;
  is = refl;
}
log_fault folder b (Err fault.NoLog) there reads = absurd reads
log_fault folder b (Err fault.BadIndex) there reads = absurd reads
log_fault folder b (Err (fault.Gap index log)) there reads = absurd reads
log_fault folder b (Err (fault.Disk n)) there reads = absurd reads

-- ---- the rotated log

scanned_good : (b : List ℕ) (file : File) (others : List Spot) → HasSpots others file → file.bytes ≡ b → IsScanned (Some b) (Good (good_file file others))
scanned_good b file others has is = subst (IsGood (good_file file others)) is has.good

pub rotated_joins : (log file : File) (b : List ℕ) (others : List Spot) → HasSpots others file → file.bytes ≡ b → ((spots : List Spot) → joins (good_file log spots) (good_file file others) ≡ true) → IsRotatedOf (Some b) log (Some file)
rotated_joins log file b others has is both = record {
  scan = Good (good_file file others);
  scanned = scanned_good b file others has is;
  is = λ spots. (others, has, ap (λ (x : Bool). if x then Some (good_file file others) else None) (both spots));
}

pub rotated_apart : (log file : File) (b : List ℕ) (others : List Spot) → HasSpots others file → file.bytes ≡ b → ((spots : List Spot) → joins (good_file log spots) (good_file file others) ≡ false) → IsRotatedOf (Some b) log None
rotated_apart log file b others has is apart = record {
  scan = Good (good_file file others);
  scanned = scanned_good b file others has is;
  is = λ spots. ap (λ (x : Bool). if x then Some (good_file file others) else None) (apart spots);
}

pub rotated_bad : (log : File) (b : List ℕ) (e : OpenFault) → (e ≡ fault.NoMemory → ⊥) → ReadsFile b (Err e) → IsRotatedOf (Some b) log None
rotated_bad log b fault.NoMemory other reads = absurd (other refl)
rotated_bad log b fault.BadLogHeader other reads = record { scan = BadHeader; scanned = reads; is = λ spots. refl }
rotated_bad log b (fault.BadRecord offset) other reads = record { scan = BadSpot offset; scanned = reads; is = λ spots. refl }
rotated_bad log b fault.NoLog other reads = absurd reads
rotated_bad log b fault.BadIndex other reads = absurd reads
rotated_bad log b (fault.Gap index mark) other reads = absurd reads
rotated_bad log b (fault.Disk n) other reads = absurd reads

-- ---- what the files give

module _ (folder : Folder) (files : Files) (are : AreFilesOf folder files) where
  -- what these files give is found in the folder
  found_by : (f : Found) → f ≡ from_either (good_file files.log are.log.spots) (joining (good_file files.log are.log.spots) are.rotated.scan) (snapshot_in files.index) → IsFound folder f
  found_by f is = record {
    log = Good (good_file files.log are.log.spots);
    rotated = are.rotated.scan;
    index = are.index.snapshot;
    log_file = subst (λ (x : Option (List ℕ)). IsScanned x (Good (good_file files.log are.log.spots))) (sym are.log.file) are.log.has.good;
    rotated_file = are.rotated.scanned;
    index_file = are.index.there;
    is = is ∙ ap (from_either (good_file files.log are.log.spots) (joining (good_file files.log are.log.spots) are.rotated.scan)) (are.index.is are.log.spots);
  }

  pub joined_end : (live : Held) → Joins (good_file files.log are.log.spots) (Ok live) (from_either (good_file files.log are.log.spots) (joining (good_file files.log are.log.spots) are.rotated.scan) (snapshot_in files.index))
      → IsEndOf folder files.log live.mailbox
  joined_end live joins = record { is = are.log; found = found_by _ joins }

  pub joined_fault : (e : OpenFault) → Joins (good_file files.log are.log.spots) (Err e) (from_either (good_file files.log are.log.spots) (joining (good_file files.log are.log.spots) are.rotated.scan) (snapshot_in files.index))
      → FaultFound e (IsFound folder)
  joined_fault e joins = fault_weaker e _ (IsFound folder) found_by joins
