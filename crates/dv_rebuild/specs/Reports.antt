-- What is told of a rebuild.
use Rattle.std.specs.Prelude.{◌≡◌, ℕ, Bool, true, false, not, ◌&&◌, nat_le, List, [], ◌∷◌, count_by, flat_map, take, Option, Some, None, is_some, Result, Ok, Err, if◌then◌else◌}
use Rattle.dv_model.specs.declared.types.Mailbox.{Mailbox}
use Rattle.dv_model.specs.Views.{row_of}
use Rattle.dv_shelf.specs.declared.shelf.Name.TheVariants as name
use Rattle.dv_shelf.specs.Folders.{Folder}
use Rattle.dv_dbox.specs.declared.fault.BoxFault.{BoxFault}
use Rattle.dv_dbox.specs.declared.fault.BoxFault.TheVariants as faults
use Rattle.dv_dbox.specs.BoxTexts as box
use Rattle.dv_dbox.specs.BoxTexts.{BoxContent, box_content}
use Rattle.dv_openings.specs.Rebuilds.{IsRebuild, Rebuild, last_uid}
use Rattle.dv_openings.specs.Salvages.{Salvaged}
use Rattle.dv_rebuild.specs.declared.reporting.Remains.{Remains}
use Rattle.dv_rebuild.specs.declared.reporting.Report.{Report}
use Rattle.dv_rebuild.specs.declared.reporting.Skip.{Skip}
use Rattle.dv_rebuild.specs.declared.reporting.SkipCause.{SkipCause}
use Rattle.dv_rebuild.specs.declared.reporting.SkipCause.TheVariants as cause
use Rattle.dv_rebuild.specs.declared.reporting.Sources.{Sources}
use Rattle.dv_rebuild.specs.declared.reporting.Validity.{Validity}
use Rattle.dv_rebuild.specs.declared.reporting.Validity.TheVariants as validity
use Rattle.dv_rebuild.specs.declared.sourcing.Which.{Which}
use Rattle.dv_rebuild.specs.Sources.{sources_in}

-- ---- the message files that are skipped

-- the part that breaks the format
abbrev pub fault_of : box.BoxFault → BoxFault
fault_of box.BadHeader = faults.BadHeader
fault_of box.BadMessageHeader = faults.BadMessageHeader
fault_of box.BadSize = faults.BadSize
fault_of box.BadEnd = faults.BadEnd
fault_of box.BadMetadata = faults.BadMetadata

-- why a message file is skipped by what its bytes hold, where it is
abbrev pub content_cause : Result BoxContent box.BoxFault → Option SkipCause
content_cause (Ok m) = None
content_cause (Err fault) = Some (cause.Broken (fault_of fault))

-- the same by its bytes; it may be gone
abbrev pub file_cause : Option (List ℕ) → Option SkipCause
file_cause None = Some cause.Gone
file_cause (Some b) = content_cause (box_content b)

-- why the message file of a number is skipped, where it is
abbrev pub skip_cause : Folder → ℕ → Option SkipCause
skip_cause folder n =
    if nat_le 1 n && nat_le n last_uid then file_cause (folder (name.Mail n)) else Some cause.NoUid

-- a skipped message file, and why
abbrev pub skip_of : ℕ → Option SkipCause → List Skip
skip_of n None = []
skip_of n (Some why) = record { number = n; cause = why } ∷ []

-- those of some numbers
abbrev pub skips_of : Folder → List ℕ → List Skip
skips_of folder numbers = flat_map (λ n. skip_of n (skip_cause folder n)) numbers

-- ---- what was left beside the message files

-- how many of the kept messages a mailbox has no row of
abbrev pub unknown_of : Mailbox → List ℕ → ℕ
unknown_of m kept = count_by (λ uid. not (is_some (row_of m uid))) kept

-- the UIDVALIDITY is the salvaged one where one was given, else a new one
abbrev pub validity_of : Salvaged → ℕ → Validity
validity_of s n = if s.given then validity.Kept s.mailbox.uid_validity else validity.New n

-- all that is told of it
abbrev pub remains_of : Sources → Salvaged → List ℕ → ℕ → Remains
remains_of sources s kept n = record {
  sources = sources;
  is_cut = not s.going;
  unknown = unknown_of s.mailbox kept;
  validity = validity_of s n;
}

-- ---- a report

-- which of the files are there
abbrev pub there_in : Folder → Which
there_in folder = record {
  log = is_some (folder name.Log);
  rotated = is_some (folder name.Log2);
  index = is_some (folder name.Index);
}

-- a rebuild of the folder is reported so
pub record Reports (folder : Folder) (now : ℕ) (does : Rebuild) (is : IsRebuild folder now does)
    (report : Report) : Type 0 where
  -- where the flags and keywords come from
  pub sources : report.remains.sources ≡ sources_in (there_in folder) is.salvages.log is.salvages.rotated is.salvages.index
  -- an append was refused, and no record from there on counts
  pub is_cut : report.remains.is_cut ≡ not does.salvaged.going
  -- how many kept messages have no row there
  pub unknown : report.remains.unknown ≡ unknown_of does.salvaged.mailbox does.kept
  -- the UIDVALIDITY, and whether it is new
  pub validity : report.remains.validity ≡ validity_of does.salvaged does.indexid
  -- the first hundred skipped message files, by rising number, each with its cause
  pub skips : report.skips ≡ take 100 (skips_of folder is.numbers)
  -- the cache file, which stays
  pub has_cache : report.has_cache ≡ is_some (folder name.Cache)
