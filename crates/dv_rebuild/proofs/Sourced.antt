-- Which files the flags and keywords come from.
use Rattle.std.proofs.Common.{◌≡◌, ℕ, ◌+◌, true, false, Bool, nat_eq, List, Option, Some, None, is_some, refl, sym, ◌∙◌, ap}
use Rattle.dv_logfile.specs.Scans.{BadHeader, BadSpot, Good, GoodLog, Missing, Scanned, Spot}
use Rattle.dv_openings.specs.Openings.{Snapshot, records_from}
use Rattle.dv_openings.specs.Salvages.{salvaged_in_log, salvaged_in_rotated}
use Rattle.dv_chain.specs.declared.file.File.{File}
use Rattle.dv_chain.specs.declared.index.Index.{Index}
use Rattle.dv_chain.specs.Files.{IsFileOf, snapshot_in}
use Rattle.dv_rebuild.specs.declared.sourcing.Which.{Which}
use Rattle.dv_rebuild.specs.Reading.{IsGoodOf}
use Rattle.dv_rebuild.specs.Sources.{is_good, read_in}
use Rattle.dv_rebuild.proofs.Joins.{not_in_first, not_in_log, not_next, not_there, there_in_first, there_in_log}

-- ---- where a snapshot's mark is

module _ (log : GoodLog) (s : Snapshot) where
  pub log_place : s.mark.file_seq ≡ log.header.file_seq → is_some (records_from log s.mark.offset) ≡ is_some (salvaged_in_log log s)
  log_place seq = by_records (records_from log s.mark.offset) refl
    where
      by_records : (r : Option (List Spot)) → records_from log s.mark.offset ≡ r → is_some (records_from log s.mark.offset) ≡ is_some (salvaged_in_log log s)
      by_records None is = ap is_some is ∙ sym (ap is_some (not_there log s seq is))
      by_records (Some left) is = ap is_some is ∙ sym (ap is_some (there_in_log log s left seq is))

  pub log_elsewhere : (s.mark.file_seq ≡ log.header.file_seq → ⊥) → false ≡ is_some (salvaged_in_log log s)
  log_elsewhere other = sym (ap is_some (not_in_log log s other))

  pub rotated_place : (before : Option GoodLog) (first : GoodLog) → before ≡ Some first → nat_eq (s.mark.file_seq + 1) log.header.file_seq ≡ true
      → is_some (records_from first s.mark.offset) ≡ is_some (salvaged_in_rotated log before s)
  rotated_place before first file seq = by_records (records_from first s.mark.offset) refl
    where
      by_records : (r : Option (List Spot)) → records_from first s.mark.offset ≡ r → is_some (records_from first s.mark.offset) ≡ is_some (salvaged_in_rotated log before s)
      by_records None is = ap is_some is ∙ sym (ap is_some (not_in_first log s before first file seq is))
      by_records (Some left) is =
          ap is_some is
          ∙ sym (ap is_some (ap (λ (x : Option GoodLog). salvaged_in_rotated log x s) file ∙ there_in_first log s first left seq is))

  pub rotated_elsewhere : (before : Option GoodLog) → nat_eq (s.mark.file_seq + 1) log.header.file_seq ≡ false → false ≡ is_some (salvaged_in_rotated log before s)
  rotated_elsewhere before seq = sym (ap is_some (not_next log s before seq))

  pub rotated_missing : (before : Option GoodLog) → before ≡ None → false ≡ is_some (salvaged_in_rotated log before s)
  rotated_missing before is = sym (ap (λ (x : Option GoodLog). is_some (salvaged_in_rotated log x s)) is)

-- ---- which files are there

pub file_some : (file : Option File) (good : Option GoodLog) → IsFileOf file good → is_some file ≡ is_some good
file_some None good is = sym (ap is_some is)
file_some (Some file) good is = sym (ap is_some is.2)

pub good_some : (file : Option File) (scan : Scanned) → IsGoodOf file scan → is_some file ≡ is_good scan
good_some None Missing is = refl
good_some None BadHeader is = refl
good_some None (BadSpot place) is = refl
good_some None (Good log) is = absurd (is log refl)
good_some (Some file) scan is = sym (ap is_good is.2)

snapshot_some : (index : Option Index) → is_some index ≡ is_some (snapshot_in index)
snapshot_some None = refl
snapshot_some (Some index) = refl

pub read_is : (log rotated : Option File) (index : Option Index) (one two three : Bool) (front : Option GoodLog) (scan : Scanned) → IsFileOf log front → IsGoodOf rotated scan → one ≡ is_some log → two ≡ is_some rotated → three ≡ is_some index
    → record { log = one; rotated = two; index = three } ≡ read_in front scan (snapshot_in index)
read_is log rotated index one two three front scan file good first second third =
    λ i. record { log = (first ∙ file_some log front file) i; rotated = (second ∙ good_some rotated scan good) i; index = (third ∙ snapshot_some index) i }
