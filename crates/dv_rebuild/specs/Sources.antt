-- Which files the flags and keywords of a rebuilt folder come from.
use Rattle.std.specs.Prelude.{◌≡◌, ℕ, Bool, true, false, not, ◌&&◌, ◌||◌, List, Option, Some, None, is_some, nat_eq, if◌then◌else◌}
use Rattle.dv_logfile.specs.Scans.{Good, GoodLog, Scanned}
use Rattle.dv_openings.specs.Openings.{Snapshot, counted, joining}
use Rattle.dv_openings.specs.Salvages.{salvaged_before_log, salvaged_in_log, salvaged_in_rotated}
use Rattle.dv_rebuild.specs.declared.reporting.Source.{Source}
use Rattle.dv_rebuild.specs.declared.reporting.Source.TheVariants as source
use Rattle.dv_rebuild.specs.declared.reporting.Sources.{Sources}
use Rattle.dv_rebuild.specs.declared.sourcing.Taken.{Taken}
use Rattle.dv_rebuild.specs.declared.sourcing.Which.{Which}

-- the log is good
abbrev pub is_good : Scanned → Bool
is_good (Good log) = true
is_good scan = false

-- which files could be read: a log up to its first fault, the others whole
abbrev pub read_in : Option GoodLog → Scanned → Option Snapshot → Which
read_in log rotated index =
    record { log = is_some log; rotated = is_good rotated; index = is_some index }

-- Behind a snapshot, the rotated log is taken where the snapshot's mark is in it and not in the
-- log, and the log where the mark is in either or at the end of the file before the log.
abbrev pub taken_behind : GoodLog → Option GoodLog → Snapshot → Taken
taken_behind log before s = record {
  log = is_some (salvaged_in_log log s) || is_some (salvaged_in_rotated log before s) || is_some (salvaged_before_log log s);
  joins = is_some before;
  rotated = not (is_some (salvaged_in_log log s)) && is_some (salvaged_in_rotated log before s);
  index = true;
}

-- without a snapshot the log is taken, and the rotated log before the second log
abbrev pub taken_from : GoodLog → Option GoodLog → Option Snapshot → Taken
taken_from log before None = record {
  log = true;
  joins = is_some before;
  rotated = is_some before && nat_eq log.header.file_seq 2;
  index = false;
}
taken_from log before (Some s) = taken_behind log before s

-- without a log only the snapshot is
abbrev pub taken_in : Option GoodLog → Scanned → Option Snapshot → Taken
taken_in None rotated index =
    record { log = false; joins = false; rotated = false; index = is_some index }
taken_in (Some log) rotated index = taken_from log (joining log rotated) (counted log index)

-- what came of a file that is there or isn't, could be read, belongs to the log, and is taken
abbrev pub source_of : Bool → Bool → Bool → Bool → Source
source_of there read belongs taken =
    if not there then source.Missing
    else if not read then source.Broken
    else if not belongs then source.Apart
    else if not taken then source.Unused
    else source.Taken

-- what came of each file
abbrev pub sources_of : Which → Which → Taken → Sources
sources_of there read taken = record {
  log = source_of there.log read.log true taken.log;
  rotated = source_of there.rotated read.rotated taken.joins taken.rotated;
  index = source_of there.index read.index taken.index taken.index;
}

-- the same, of the files that are there and what they hold
abbrev pub sources_in : Which → Option GoodLog → Scanned → Option Snapshot → Sources
sources_in there log rotated index =
    sources_of there (read_in log rotated index) (taken_in log rotated index)
