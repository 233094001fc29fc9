-- What a rebuild found, as text.
use Rattle.std.specs.Prelude.{ℕ, Bool, true, false, List, [], ◌∷◌, ◌++◌, ◌-◌, length, flat_map, codes, decimal, nat_eq, if◌then◌else◌}
use Rattle.dv_dbox.specs.declared.fault.BoxFault.{BoxFault}
use Rattle.dv_dbox.specs.declared.fault.BoxFault.TheVariants as fault
use Rattle.dv_rebuild.specs.declared.reporting.Remains.{Remains}
use Rattle.dv_rebuild.specs.declared.reporting.Skip.{Skip}
use Rattle.dv_rebuild.specs.declared.reporting.SkipCause.{SkipCause}
use Rattle.dv_rebuild.specs.declared.reporting.SkipCause.TheVariants as cause
use Rattle.dv_rebuild.specs.declared.reporting.Source.{Source}
use Rattle.dv_rebuild.specs.declared.reporting.Source.TheVariants as source
use Rattle.dv_rebuild.specs.declared.reporting.Sources.{Sources}
use Rattle.dv_rebuild.specs.declared.reporting.Validity.{Validity}
use Rattle.dv_rebuild.specs.declared.reporting.Validity.TheVariants as validity
use Rattle.dv_rebuild.specs.declared.rebuilding.Rebuilt.{Rebuilt}

-- ---- lines

-- a line of some words
abbrev pub line_of : List ℕ → List ℕ
line_of words = words ++ 10 ∷ []

-- a line only where it is to be told
abbrev pub line_when : Bool → List ℕ → List ℕ
line_when true words = line_of words
line_when false words = []

-- words before a number and words behind it
abbrev pub around : List ℕ → ℕ → List ℕ → List ℕ
around front n rest = front ++ decimal n ++ rest

-- ---- where the flags and keywords come from

-- what came of a file
abbrev pub source_words : Source → List ℕ
source_words source.Missing = codes "there is none"
source_words source.Broken = codes "not readable"
source_words source.Apart = codes "does not belong to dovecot.index.log"
source_words source.Unused = codes "readable, but not used"
source_words source.Taken = codes "flags and keywords come from it"

-- the line of a file by its name
abbrev pub source_text : List ℕ → Source → List ℕ
source_text name s = line_of (name ++ codes ": " ++ source_words s)

-- a line for each of the three files
abbrev pub sources_text : Sources → List ℕ
sources_text s =
    source_text (codes "dovecot.index.log") s.log
    ++ source_text (codes "dovecot.index.log.2") s.rotated
    ++ source_text (codes "dovecot.index") s.index

-- where an append that is refused ended what counts
abbrev pub cut_text : Bool → List ℕ
cut_text is_cut =
    line_when is_cut (codes "an append in the log is refused: no record from there on counts")

-- how many of the kept messages have no row in these files
abbrev pub unknown_text : ℕ → List ℕ
unknown_text n =
    around (codes "messages in none of these files, kept without flags: ") n (10 ∷ [])

-- the UIDVALIDITY, and whether it is new
abbrev pub validity_text : Validity → List ℕ
validity_text (validity.Kept n) = around (codes "UIDVALIDITY ") n (line_of (codes ": kept"))
validity_text (validity.New n) =
    around (codes "UIDVALIDITY ") n (line_of (codes ": new, so clients load the mailbox anew"))

-- all that was left beside the message files
abbrev pub remains_text : Remains → List ℕ
remains_text r =
    sources_text r.sources ++ cut_text r.is_cut ++ unknown_text r.unknown
    ++ validity_text r.validity

-- ---- the message files that are skipped

-- the part of a message file that breaks the format
abbrev pub fault_words : BoxFault → List ℕ
fault_words fault.BadHeader = codes "its first line is damaged"
fault_words fault.BadMessageHeader = codes "its message header is damaged"
fault_words fault.BadSize = codes "it ends before its message does"
fault_words fault.BadEnd = codes "the mark behind its message is damaged"
fault_words fault.BadMetadata = codes "its metadata are damaged"

-- why a message file is skipped
abbrev pub cause_words : SkipCause → List ℕ
cause_words cause.NoUid = codes "its number may be no UID"
cause_words cause.Gone = codes "it was listed and then gone"
cause_words (cause.Broken fault) = fault_words fault

-- the line of a skipped file
abbrev pub skip_text : Skip → List ℕ
skip_text s = line_of (around (codes "u.") s.number (codes " skipped: ") ++ cause_words s.cause)

-- how many more are skipped than have a line
abbrev pub more_text : ℕ → List ℕ
more_text n = if nat_eq n 0 then [] else around (codes "more skipped files: ") n (10 ∷ [])

-- what becomes of the skipped files
abbrev pub stay_words : List ℕ
stay_words = codes "skipped files stay until the next CHECK, which removes those below UIDNEXT"

-- the same, where there are some
abbrev pub stay_text : ℕ → List ℕ
stay_text n = if nat_eq n 0 then [] else line_of stay_words

-- all that is told of so many skipped files, of which these have lines
abbrev pub skipped_text : ℕ → List Skip → List ℕ
skipped_text n skips = flat_map skip_text skips ++ more_text (n - length skips) ++ stay_text n

-- ---- a report

-- the cache file stays, where there is one
abbrev pub cache_text : Bool → List ℕ
cache_text has_cache = line_when has_cache (codes "dovecot.index.cache: neither read nor changed")

-- what a rebuild found
abbrev pub report_text : Rebuilt → List ℕ
report_text r =
    remains_text r.report.remains ++ skipped_text r.skipped r.report.skips
    ++ cache_text r.report.has_cache
