-- What a rebuild keeps of a folder, and what it writes: a new log, beside which the old snapshot
-- and rotated log no longer count.
use Rattle.std.specs.Prelude.{◌≡◌, ◌↔◌, ℕ, max, Bool, ◌&&◌, not, nat_eq, nat_le, List, [], ◌∷◌, ◌++◌, filter, count_by, Contains, Option, Some, None, IsSome, is_some, option_map, if◌then◌else◌}
use Rattle.std.specs.List.{list_any}
use Rattle.std.specs.List.Sorted.{IsStrictlyIncreasing}
use Rattle.dv_model.specs.declared.types.Record.{Record}
use Rattle.dv_model.specs.Sessions.{next_number}
use Rattle.dv_shelf.specs.declared.shelf.Name.TheVariants as name
use Rattle.dv_shelf.specs.Folders.{Folder, with_file}
use Rattle.dv_logfile.specs.declared.header.LogHeader.{LogHeader}
use Rattle.dv_logfile.specs.Layout.{IsHeader, last_end, log_end, log_text, new_header}
use Rattle.dv_logfile.specs.Scans.{GoodLog}
use Rattle.dv_dbox.specs.Mails.{content_in}
use Rattle.dv_openings.specs.Openings.{Snapshot}
use Rattle.dv_openings.specs.Salvages.{IsSalvaged, Salvaged, rebuilt_records}

-- ---- the message files

-- the largest UID that a message may have
abbrev pub last_uid : ℕ
last_uid = 4294967294

-- the numbers of the message files that are there
pub record AreMailNumbers (folder : Folder) (numbers : List ℕ) : Type 0 where
  pub rise : IsStrictlyIncreasing numbers
  pub each : (n : ℕ) → IsSome (folder (name.Mail n)) ↔ Contains numbers n

-- a message file is kept where its number may be a UID and its bytes have the form
abbrev pub is_kept : Folder → ℕ → Bool
is_kept folder n = nat_le 1 n && nat_le n last_uid && is_some (content_in (folder (name.Mail n)))

-- the UIDs that are kept
abbrev pub kept_of : Folder → List ℕ → List ℕ
kept_of folder numbers = filter (is_kept folder) numbers

-- how many message files are skipped
abbrev pub skipped_of : Folder → List ℕ → ℕ
skipped_of folder numbers = count_by (λ n. not (is_kept folder n)) numbers

-- ---- the new indexid

-- the header of a log, where it is a good one; its records may have faults
abbrev pub IsHeaderIn : Option (List ℕ) → Option LogHeader → Type 0
IsHeaderIn None header = header ≡ None
IsHeaderIn (Some b) (Some h) = IsHeader h b
IsHeaderIn (Some b) None = (h : LogHeader) → IsHeader h b → ⊥

-- a number where there is one
abbrev pub as_list : Option ℕ → List ℕ
as_list None = []
as_list (Some n) = n ∷ []

-- the indexids that the folder's files have: the log, the rotated log and the snapshot
abbrev pub used_indexids : Option GoodLog → Option LogHeader → Option Snapshot → List ℕ
used_indexids log rotated index =
    as_list (option_map (λ file. file.header.indexid) log)
    ++ as_list (option_map (λ h. h.indexid) rotated) ++ as_list (option_map (λ s. s.indexid) index)

-- the clock's reading, in which 0 counts as 1
abbrev pub stamp_of : ℕ → ℕ
stamp_of reading = max reading 1

-- raised by 1 while it is used, at most once for each number of a list; behind the largest comes 1
abbrev pub raised_while : List ℕ → List ℕ → ℕ → ℕ
raised_while used [] n = n
raised_while used (one ∷ more) n =
    if list_any (nat_eq n) used then raised_while used more (next_number n) else n

-- a number that no file has: so many numbers are used, so often it may have to be raised
abbrev pub new_indexid : List ℕ → ℕ → ℕ
new_indexid used reading = raised_while used used (stamp_of reading)

-- ---- the new log

-- what a rebuild does
pub record Rebuild : Type 0 where
  pub salvaged : Salvaged
  -- the UIDs of the messages that are kept, and how many message files are skipped
  pub kept : List ℕ
  pub skipped : ℕ
  pub indexid : ℕ
  -- the time of the new log's making
  pub stamp : ℕ

-- a rebuild of the folder, at this reading of the clock, does this
pub record IsRebuild (folder : Folder) (reading : ℕ) (r : Rebuild) : Type 0 where
  pub salvages : IsSalvaged folder r.salvaged
  pub rotated : Option LogHeader
  pub rotated_header : IsHeaderIn (folder name.Log2) rotated
  pub numbers : List ℕ
  pub mails : AreMailNumbers folder numbers
  pub keeps : r.kept ≡ kept_of folder numbers
  pub skips : r.skipped ≡ skipped_of folder numbers
  pub named : r.indexid ≡ new_indexid (used_indexids salvages.log rotated salvages.index) reading
  pub made : r.stamp ≡ stamp_of reading

-- the new log's header: the first of its files, whose modification sequences go on from the
-- salvaged ones
abbrev pub rebuilt_header : Rebuild → LogHeader
rebuilt_header r =
    record (new_header r.indexid) { create_stamp = r.stamp; initial_modseq = r.salvaged.mailbox.highest }

-- the new log's records
abbrev pub records_of : Rebuild → List Record
records_of r = rebuilt_records r.salvaged r.kept r.indexid

-- the new log's text
abbrev pub rebuilt_text : Rebuild → List ℕ
rebuilt_text r = log_text (rebuilt_header r) (records_of r)

-- it ends in time; where it doesn't, nothing is written
abbrev pub rebuilt_fits : Rebuild → Bool
rebuilt_fits r = nat_le (log_end (records_of r)) last_end

-- the folder behind it: the log is a new one, and every other file stays
abbrev pub rebuilt_folder : Folder → Rebuild → Folder
rebuilt_folder folder r =
    if rebuilt_fits r then with_file folder name.Log (Some (rebuilt_text r)) else folder
