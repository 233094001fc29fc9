-- What opening finds in a folder: in its log, in the snapshot of the index, and in a rotated log.
use Rattle.std.specs.Prelude.{◌≡◌, ℕ, ◌+◌, ◌-◌, min, max, Bool, ◌&&◌, List, [], ◌∷◌, ◌++◌, length, map, take, slice_index, Option, Some, None, nat_eq, if◌then◌else◌}
use Rattle.dv_model.specs.declared.types.Mailbox.{Mailbox}
use Rattle.dv_model.specs.declared.types.Mark.{Mark}
use Rattle.dv_model.specs.declared.types.Row.{Row}
use Rattle.dv_model.specs.Effects.{after_record}
use Rattle.dv_model.specs.Mailboxes.{empty_mailbox, last_modseq}
use Rattle.dv_shelf.specs.declared.shelf.Name.TheVariants as name
use Rattle.dv_shelf.specs.Folders.{Folder}
use Rattle.dv_logfile.specs.declared.header.LogHeader.{LogHeader}
use Rattle.dv_logfile.specs.Layout.{closing}
use Rattle.dv_logfile.specs.Scans.{Spot, GoodLog, Scanned, Missing, BadHeader, BadSpot, Good, IsScanned}
use Rattle.dv_formats.specs.Snapshots.{IsSnapshot}

-- ---- the index's snapshot

-- the mailbox of an index, with the place of the log up to which it has the records
pub record Snapshot : Type 0 where
  pub version : ℕ
  pub mailbox : Mailbox
  pub indexid : ℕ
  pub mark : Mark

-- a file that isn't the text of a snapshot counts as none
abbrev pub IsIndex : Option (List ℕ) → Option Snapshot → Type 0
IsIndex None index = index ≡ None
IsIndex (Some b) (Some s) = IsSnapshot s.version s.mailbox s.indexid s.mark b
IsIndex (Some b) None = (s : Snapshot) → IsSnapshot s.version s.mailbox s.indexid s.mark b → ⊥

-- ---- what is found

-- the mailbox and its place in the log, or why there is none
pub data Found : Type 0 where
  Finds : Mailbox → Mark → Found
  NoLog : Found
  BadLogHeader : Found
  BadRecord : ℕ → Found
  BadIndex : Found
  -- the snapshot's mark, and the place where the log begins
  Gap : Mark → Mark → Found

-- a mailbox, or the place of an append that is refused
pub data Applied : Type 0 where
  Gives : Mailbox → Applied
  Refused : ℕ → Applied

-- the records in turn
abbrev pub spots_applied : Mailbox → List Spot → Applied
spots_applied m [] = Gives m
spots_applied m (spot ∷ spots) =
    elim (after_record m spot.is) [ None ↦ Refused spot.place | Some next ↦ spots_applied next spots ]

-- where a file's modification sequences begin: its header's initial_modseq, read as 1 where it is
-- 0, and never above the largest
abbrev pub file_number : LogHeader → ℕ
file_number h = min (max h.initial_modseq 1) last_modseq

-- a mailbox before the first record of a file has at least the file's number
abbrev pub raised : LogHeader → Mailbox → Mailbox
raised h m = record m { highest = max m.highest (file_number h) }

-- all of a file's records
abbrev pub file_applied : GoodLog → Mailbox → Applied
file_applied file m = spots_applied (raised file.header m) file.spots

-- a file's records from a place on; from the first place on means all of them
abbrev pub applied_from : GoodLog → ℕ → List Spot → Mailbox → Applied
applied_from file from spots m =
    if nat_eq from file.header.hdr_size then file_applied file m else spots_applied m spots

-- all of the next file's records, behind others
abbrev pub then_file : GoodLog → Applied → Applied
then_file file (Gives m) = file_applied file m
then_file file (Refused place) = Refused place

-- the records from a place on, where a record or the end stands there
abbrev pub spots_from : ℕ → ℕ → List Spot → Option (List Spot)
spots_from end from [] = if nat_eq from end then Some [] else None
spots_from end from (spot ∷ spots) =
    if nat_eq from spot.place then Some (spot ∷ spots) else spots_from end from spots

-- those of a file
abbrev pub records_from : GoodLog → ℕ → Option (List Spot)
records_from file from = spots_from file.end from file.spots

-- ---- a snapshot's modification sequences

-- the highest and each row's
abbrev pub numbered_row : ℕ → Row → Row
numbered_row n row = record row { modseq = n }

-- the mailbox with that number everywhere
abbrev pub all_numbered : ℕ → Mailbox → Mailbox
all_numbered n m = record m { highest = n; rows = map (numbered_row n) m.rows }

-- a snapshot of version 1 has none of its own
abbrev pub with_numbers : Snapshot → ℕ → Mailbox
with_numbers s n = if nat_eq s.version 1 then all_numbered n s.mailbox else s.mailbox

-- the file's number, and one for each record before those that are left
abbrev pub number_before : GoodLog → List Spot → ℕ
number_before file left =
    min (file_number file.header + (length file.spots - length left)) last_modseq

-- ---- joining

-- the rotated log goes before the log where it is good and the log names its number and its end
abbrev pub joins : GoodLog → GoodLog → Bool
joins log rotated =
    nat_eq rotated.header.indexid log.header.indexid
    && nat_eq (rotated.header.file_seq + 1) log.header.file_seq
    && nat_eq log.header.prev_file_seq rotated.header.file_seq
    && nat_eq log.header.prev_file_offset rotated.end

-- the rotated log, where it takes part
abbrev pub joining : GoodLog → Scanned → Option GoodLog
joining log (Good rotated) = if joins log rotated then Some rotated else None
joining log scanned = None

-- a snapshot of another mailbox counts as none
abbrev pub counted : GoodLog → Option Snapshot → Option Snapshot
counted log None = None
counted log (Some s) = if nat_eq s.indexid log.header.indexid then Some s else None

-- the snapshot's mark is a place in the log
abbrev pub in_log : GoodLog → Snapshot → Option Applied
in_log log s =
    if nat_eq s.mark.file_seq log.header.file_seq then from_there (records_from log s.mark.offset)
    else None
  where
    from_there : Option (List Spot) → Option Applied
    from_there None = None
    from_there (Some spots) =
        Some (applied_from log s.mark.offset spots (with_numbers s (number_before log spots)))

-- or a place in the rotated log, whose records from there on stand before all of the log's
abbrev pub in_rotated : GoodLog → Option GoodLog → Snapshot → Option Applied
in_rotated log None s = None
in_rotated log (Some rotated) s =
    if nat_eq (s.mark.file_seq + 1) log.header.file_seq
    then from_there (records_from rotated s.mark.offset)
    else None
  where
    from_there : Option (List Spot) → Option Applied
    from_there None = None
    from_there (Some spots) =
        Some (then_file log (applied_from rotated s.mark.offset spots (with_numbers s (number_before rotated spots))))

-- or the end of the file before the log, as the log's header names it
abbrev pub before_log : GoodLog → Snapshot → Option Applied
before_log log s =
    if nat_eq (s.mark.file_seq + 1) log.header.file_seq
    && nat_eq s.mark.offset log.header.prev_file_offset
    && nat_eq s.mark.file_seq log.header.prev_file_seq
    then Some (file_applied log (with_numbers s (file_number log.header))) else None

-- the first of these that applies
abbrev pub first_of_three : Option Applied → Option Applied → Option Applied → Option Applied
first_of_three (Some one) two three = Some one
first_of_three None (Some two) three = Some two
first_of_three None None three = three

-- the place behind the log's last record
abbrev pub end_mark : GoodLog → Mark
end_mark log = record { file_seq = log.header.file_seq; offset = log.end }

-- the place of the log's first record
abbrev pub first_mark : GoodLog → Mark
first_mark log = record { file_seq = log.header.file_seq; offset = log.header.hdr_size }

-- the mailbox is found at the log's end
abbrev pub at_end : GoodLog → Applied → Found
at_end log (Gives m) = Finds m (end_mark log)
at_end log (Refused place) = BadRecord place

-- from a snapshot
abbrev pub from_index : GoodLog → Option GoodLog → Snapshot → Found
from_index log rotated s =
    or_gap (first_of_three (in_log log s) (in_rotated log rotated s) (before_log log s))
  where
    or_gap : Option Applied → Found
    or_gap None = Gap s.mark (first_mark log)
    or_gap (Some result) = at_end log result

-- from nothing: the first log of all, or the second behind the first
abbrev pub from_nothing : GoodLog → Option GoodLog → Found
from_nothing log rotated =
    if nat_eq log.header.file_seq 1 then at_end log (file_applied log start) else second rotated
  where
    start : Mailbox
    start = empty_mailbox log.header.indexid

    second : Option GoodLog → Found
    second None = BadIndex
    second (Some first) =
        if nat_eq log.header.file_seq 2 then at_end log (then_file log (file_applied first start))
        else BadIndex

-- from a snapshot, or from nothing
abbrev pub from_either : GoodLog → Option GoodLog → Option Snapshot → Found
from_either log rotated None = from_nothing log rotated
from_either log rotated (Some s) = from_index log rotated s

-- what is found in these files
abbrev pub found_in : Scanned → Scanned → Option Snapshot → Found
found_in Missing rotated index = NoLog
found_in BadHeader rotated index = BadLogHeader
found_in (BadSpot place) rotated index = BadRecord place
found_in (Good log) rotated index = from_either log (joining log rotated) (counted log index)

-- a fact that is asked for only where the log is good
abbrev pub IfGood : Scanned → Type 0 → Type 0
IfGood (Good log) P = P
IfGood scanned P = Unit {0}

-- opening the folder finds this; beside a log that isn't good the other files aren't read
pub record IsFound (folder : Folder) (found : Found) : Type 0 where
  pub log : Scanned
  pub rotated : Scanned
  pub index : Option Snapshot
  pub log_file : IsScanned (folder name.Log) log
  pub rotated_file : IfGood log (IsScanned (folder name.Log2) rotated)
  pub index_file : IfGood log (IsIndex (folder name.Index) index)
  pub is : found ≡ found_in log rotated index

-- ---- what opening writes

-- a log that ends at its end, or whose gate stands open, is written again with a closed gate;
-- another stays
abbrev pub mended : List ℕ → ℕ → List ℕ
mended b end =
    if nat_eq (length b) end then b ++ closing
    else (if nat_eq (slice_index b end) 0x80 then take end b ++ closing else b)
