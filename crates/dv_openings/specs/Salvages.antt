-- What a rebuild salvages of a folder's log, rotated log and index, and the records of the log that
-- it writes.
use Rattle.std.specs.Prelude.{◌≡◌, ◌⊎◌, ℕ, ◌+◌, max, Bool, true, false, ◌&&◌, ◌||◌, List, [], ◌∷◌, ◌++◌, map, filter, fold, flat_map, drop, Option, Some, None, is_some, unwrap_or, option_map, nat_eq, if◌then◌else◌}
use Rattle.std.specs.Int.{w32, to_le_bytes}
use Rattle.std.specs.List.{list_any, enumerate_from}
use Rattle.dv_model.specs.declared.types.Body.{Body}
use Rattle.dv_model.specs.declared.types.Body.TheVariants as body
use Rattle.dv_model.specs.declared.types.How.TheVariants.{Add}
use Rattle.dv_model.specs.declared.types.Mailbox.{Mailbox}
use Rattle.dv_model.specs.declared.types.NewRow.{NewRow}
use Rattle.dv_model.specs.declared.types.Record.{Record}
use Rattle.dv_model.specs.Effects.{after_record, header_number}
use Rattle.dv_model.specs.Mailboxes.{empty_mailbox}
use Rattle.dv_model.specs.Sessions.{external_record, internal_record, keyword_updates, pieces, ranges_of}
use Rattle.dv_model.specs.Spelling.{is_closed}
use Rattle.dv_model.specs.Views.{row_of}
use Rattle.dv_shelf.specs.declared.shelf.Name.TheVariants as name
use Rattle.dv_shelf.specs.Folders.{Folder}
use Rattle.dv_logfile.specs.declared.header.LogHeader.{LogHeader}
use Rattle.dv_logfile.specs.Layout.{IsHeader}
use Rattle.dv_logfile.specs.Scans.{AreSpots, GoodLog, IsFaulty, IsScanned, Scanned, Spot}
use Rattle.dv_openings.specs.Openings.{IsIndex, Snapshot, counted, file_number, joining, number_before, raised, records_from, with_numbers}

-- ---- what is read

-- a good header, and the records up to a closed place or to one with a fault
pub record IsFront (file : GoodLog) (b : List ℕ) : Type 0 where
  pub taken : IsHeader file.header b
  pub rest : List ℕ
  pub records : AreSpots file.header.hdr_size file.spots (drop file.header.hdr_size b) file.end rest
  pub stops : (is_closed rest ≡ true) ⊎ IsFaulty file.end rest

-- a log without a good header counts as none
abbrev pub IsLogFront : Option (List ℕ) → Option GoodLog → Type 0
IsLogFront None log = log ≡ None
IsLogFront (Some b) (Some log) = IsFront log b
IsLogFront (Some b) None = (h : LogHeader) → IsHeader h b → ⊥

-- ---- what is salvaged

-- so far: the mailbox, whether its UIDVALIDITY was given, and whether records are still applied
pub record Salvaged : Type 0 where
  pub mailbox : Mailbox
  pub given : Bool
  pub going : Bool

-- the record gives a UIDVALIDITY
abbrev pub gives_validity : Record → Bool
gives_validity r = by_body r.body
  where
    by_body : Body → Bool
    by_body (body.HeaderUpdate parts) = list_any (λ part. is_some (header_number part 24)) parts
    by_body b = false

-- a refused append ends all applying
abbrev pub with_spot : Salvaged → Spot → Salvaged
with_spot s spot = if s.going then by_result (after_record s.mailbox spot.is) else s
  where
    by_result : Option Mailbox → Salvaged
    by_result None = record s { going = false }
    by_result (Some m) =
        record { mailbox = m; given = s.given || gives_validity spot.is; going = true }

-- records in turn
abbrev pub with_spots : Salvaged → List Spot → Salvaged
with_spots s spots = fold with_spot s spots

-- all of a file's records
abbrev pub with_file : GoodLog → Salvaged → Salvaged
with_file file s =
    if s.going then with_spots (record s { mailbox = raised file.header s.mailbox }) file.spots
    else s

-- a file's records from a place on
abbrev pub with_file_from : GoodLog → ℕ → List Spot → Salvaged → Salvaged
with_file_from file from spots s =
    if nat_eq from file.header.hdr_size then with_file file s else with_spots s spots

-- a snapshot gives the UIDVALIDITY
abbrev pub from_snapshot : Mailbox → Salvaged
from_snapshot m = record { mailbox = m; given = true; going = true }

-- the snapshot's mark is a place in the log
abbrev pub salvaged_in_log : GoodLog → Snapshot → Option Salvaged
salvaged_in_log log s =
    if nat_eq s.mark.file_seq log.header.file_seq
    then option_map from_there (records_from log s.mark.offset)
    else None
  where
    from_there : List Spot → Salvaged
    from_there spots =
        with_file_from log s.mark.offset spots (from_snapshot (with_numbers s (number_before log spots)))

-- or in the rotated log
abbrev pub salvaged_in_rotated : GoodLog → Option GoodLog → Snapshot → Option Salvaged
salvaged_in_rotated log None s = None
salvaged_in_rotated log (Some rotated) s =
    if nat_eq (s.mark.file_seq + 1) log.header.file_seq
    then option_map from_there (records_from rotated s.mark.offset)
    else None
  where
    from_there : List Spot → Salvaged
    from_there spots =
        with_file log (with_file_from rotated s.mark.offset spots (from_snapshot (with_numbers s (number_before rotated spots))))

-- or the end of the file before the log
abbrev pub salvaged_before_log : GoodLog → Snapshot → Option Salvaged
salvaged_before_log log s =
    if nat_eq (s.mark.file_seq + 1) log.header.file_seq
    && nat_eq s.mark.offset log.header.prev_file_offset
    && nat_eq s.mark.file_seq log.header.prev_file_seq
    then Some (with_file log (from_snapshot (with_numbers s (file_number log.header)))) else None

-- the first of these; where none holds, the snapshot alone
abbrev pub first_salvaged : Option Salvaged → Option Salvaged → Option Salvaged → Mailbox → Salvaged
first_salvaged (Some one) two three alone = one
first_salvaged None (Some two) three alone = two
first_salvaged None None (Some three) alone = three
first_salvaged None None None alone = from_snapshot alone

-- a mailbox of which nothing is known
abbrev pub nothing : ℕ → Salvaged
nothing indexid = record { mailbox = empty_mailbox indexid; given = false; going = true }

-- without a snapshot: the rotated log before the second log, else the log's records alone
abbrev pub salvaged_anew : GoodLog → Option GoodLog → Salvaged
salvaged_anew log None = with_file log (nothing log.header.indexid)
salvaged_anew log (Some rotated) =
    if nat_eq log.header.file_seq 2
    then with_file log (with_file rotated (nothing log.header.indexid))
    else with_file log (nothing log.header.indexid)

-- from a snapshot, or from nothing
abbrev pub salvaged_from : GoodLog → Option GoodLog → Option Snapshot → Salvaged
salvaged_from log rotated None = salvaged_anew log rotated
salvaged_from log rotated (Some s) =
    first_salvaged (salvaged_in_log log s) (salvaged_in_rotated log rotated s) (salvaged_before_log log s) s.mailbox

-- without a log the snapshot alone, where there is one
abbrev pub salvaged_in : Option GoodLog → Scanned → Option Snapshot → Salvaged
salvaged_in (Some log) rotated index = salvaged_from log (joining log rotated) (counted log index)
salvaged_in None rotated (Some s) = from_snapshot s.mailbox
salvaged_in None rotated None = nothing 0

-- a rebuild of the folder salvages this
pub record IsSalvaged (folder : Folder) (salvaged : Salvaged) : Type 0 where
  pub log : Option GoodLog
  pub rotated : Scanned
  pub index : Option Snapshot
  pub log_file : IsLogFront (folder name.Log) log
  pub rotated_file : IsScanned (folder name.Log2) rotated
  pub index_file : IsIndex (folder name.Index) index
  pub is : salvaged ≡ salvaged_in log rotated index

-- ---- the log that is written

-- a number of the header, at an offset of Dovecot's index header
abbrev pub header_record : ℕ → ℕ → Record
header_record offset n =
    internal_record (body.HeaderUpdate (record { offset = offset; bytes = to_le_bytes w32 n } ∷ []))

-- a kept message has its salvaged flags, or none
abbrev pub kept_row : Mailbox → ℕ → NewRow
kept_row m uid =
    record { uid = uid; flags = unwrap_or (option_map (λ row. row.flags) (row_of m uid)) 0 }

-- the message has the keyword at this place
abbrev pub has_keyword : Mailbox → ℕ → ℕ → Bool
has_keyword m place uid =
    list_any (nat_eq place) (unwrap_or (option_map (λ row. row.keywords) (row_of m uid)) [])

-- a keyword of the table is added to the kept messages that have it, where one does
abbrev pub keyword_records : Mailbox → List ℕ → ℕ × List ℕ → List Record
keyword_records m kept keyword =
    keyword_updates Add (ranges_of (filter (has_keyword m keyword.0) kept)) keyword.1

-- the records of the new log, from what is salvaged, the UIDs that are kept, and a UIDVALIDITY
-- where none was given
abbrev pub rebuilt_records : Salvaged → List ℕ → ℕ → List Record
rebuilt_records s kept n =
    header_record 24 (if s.given then s.mailbox.uid_validity else n)
    ∷ map (λ rows. external_record (body.Append rows)) (pieces (map (kept_row s.mailbox) kept))
    ++ flat_map (keyword_records s.mailbox kept) (enumerate_from 0 s.mailbox.keywords)
    ++ header_record 28 (fold (λ next uid. max next (uid + 1)) s.mailbox.next_uid kept) ∷ []
