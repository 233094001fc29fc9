-- What a rebuild answers, and what it leaves of the folder.
use Rattle.std.specs.Prelude.{◌≡◌, ◌⊎◌, ℕ, ◌+◌, max, ◌≤◌, true, false, List, [], length, map, fold, Option, Some, None, option_map, unwrap_or, Result, Ok, Err, ⊤, All, if◌then◌else◌}
use Rattle.dv_model.specs.declared.types.Mailbox.{Mailbox}
use Rattle.dv_model.specs.Counts.{Rose}
use Rattle.dv_model.specs.Spelling.{IsRecord}
use Rattle.dv_model.specs.Views.{names_of, row_of}
use Rattle.dv_shelf.specs.declared.shelf.Name.TheVariants as name
use Rattle.dv_shelf.specs.Crashes.{IsSettled, LeavesOnly}
use Rattle.dv_shelf.specs.Folders.{Folder, with_file}
use Rattle.dv_shelf.specs.Sees.{SeesFolder}
use Rattle.dv_logfile.specs.Layout.{IsGoodHeader, log_end}
use Rattle.dv_openings.specs.Openings.{Finds, IsFound}
use Rattle.dv_openings.specs.Rebuilds.{IsRebuild, Rebuild, rebuilt_fits, rebuilt_folder, rebuilt_header, rebuilt_text, records_of}
use Rattle.dv_openings.specs.Salvages.{kept_row}
use Rattle.dv_openings.specs.TrueCaches.{HasTrueCache}
use Rattle.dv_rebuild.specs.declared.fault.RebuildFault.{RebuildFault}
use Rattle.dv_rebuild.specs.declared.fault.RebuildFault.TheVariants as fault
use Rattle.dv_rebuild.specs.declared.planning.NewLog.{NewLog}
use Rattle.dv_rebuild.specs.declared.rebuilding.Rebuilt.{Rebuilt}
use Rattle.dv_rebuild.specs.Plans.{HasLogNumbers}
use Rattle.dv_rebuild.specs.Reports.{Reports}

-- ---- what is made ready

-- what is told of a rebuild
pub record Tells (does : Rebuild) (rebuilt : Rebuilt) : Type 0 where
  pub kept : rebuilt.kept ≡ length does.kept
  pub skipped : rebuilt.skipped ≡ does.skipped
  pub indexid : rebuilt.indexid ≡ does.indexid

-- a rebuild of the folder is made ready: its new log is a good one
pub record IsPrepared (folder : Folder) (now : ℕ) (x : NewLog × Rebuilt) : Type 0 where
  pub does : Rebuild
  pub is : IsRebuild folder now does
  pub fits : rebuilt_fits does ≡ true
  pub text : x.0.text ≡ rebuilt_text does
  pub tells : Tells does x.1
  pub reports : Reports folder now does is x.1.report
  pub good : IsGoodHeader (rebuilt_header does)
  pub records : All IsRecord (records_of does)
  pub left : HasLogNumbers does.salvaged.mailbox

-- the new log of a rebuild of the folder would be too long
pub record IsTooLong (folder : Folder) (now : ℕ) : Type 0 where
  pub does : Rebuild
  pub is : IsRebuild folder now does
  pub long : rebuilt_fits does ≡ false

-- a rebuild is made ready; none is only where the new log would be too long
abbrev pub Prepares : Folder → ℕ → Option (NewLog × Rebuilt) → Type 0
Prepares folder now (Some x) = IsPrepared folder now x
Prepares folder now None = IsTooLong folder now

-- the folder as it was, or with this log
abbrev pub IsOldOrPut : Folder → List ℕ → Folder → Type 0
IsOldOrPut old text new = (new ≡ old) ⊎ (new ≡ with_file old name.Log (Some text))

-- Behind Ok it has that log, and a fault of the disk leaves either.
abbrev pub LeavesPut : Folder → List ℕ → Folder → Result (Unit {0}) RebuildFault → Type 0
LeavesPut old text new (Ok x) = new ≡ with_file old name.Log (Some text)
LeavesPut old text new (Err fault.NoMemory) = ⊥
LeavesPut old text new (Err (fault.Disk faults)) = IsOldOrPut old text new

-- ---- what is left

-- the names of the keywords that the message of this UID has in a mailbox, where there is one
abbrev pub keyword_names : Mailbox → ℕ → List (List ℕ)
keyword_names m uid = names_of m (unwrap_or (option_map (λ row. row.keywords) (row_of m uid)) [])

-- The mailbox has the kept messages, in the order of their UIDs, and no other. Each has its
-- salvaged flags, and its salvaged keywords, by their names, and no other. The UIDVALIDITY is the
-- salvaged one, where one was given, and the UIDNEXT is above all UIDs.
pub record HasKept (does : Rebuild) (m : Mailbox) : Type 0 where
  pub rows : map (λ row. record { uid = row.uid; flags = row.flags }) m.rows ≡ map (kept_row does.salvaged.mailbox) does.kept
  pub keywords : map (λ row. names_of m row.keywords) m.rows ≡ map (keyword_names does.salvaged.mailbox) does.kept
  pub uid_validity : m.uid_validity ≡ (if does.salvaged.given then does.salvaged.mailbox.uid_validity else does.indexid)
  pub next_uid : m.next_uid ≡ fold (λ next uid. max next (uid + 1)) does.salvaged.mailbox.next_uid does.kept

-- Opening finds that mailbox, at the end of the log's records. What is looked up for its messages
-- in the cache file, which stays, is true.
pub record OpensTo (does : Rebuild) (new : Folder) : Type 0 where
  pub mailbox : Mailbox
  pub has : HasKept does mailbox
  pub found : IsFound new (Finds mailbox (record { file_seq = 1; offset = log_end (records_of does) }))
  pub cache : (indexid : ℕ) → HasTrueCache new indexid mailbox

-- the folder is rebuilt, at this reading of the clock
pub record IsRebuilt (old : Folder) (now : ℕ) (new : Folder) : Type 0 where
  pub does : Rebuild
  pub is : IsRebuild old now does
  pub fits : rebuilt_fits does ≡ true
  pub leaves : new ≡ rebuilt_folder old does
  pub opens : OpensTo does new

-- and so it is told, and reported
pub record Rebuilds (old : Folder) (now : ℕ) (new : Folder) (rebuilt : Rebuilt) : Type 0 where
  pub made : IsRebuilt old now new
  pub tells : Tells made.does rebuilt
  pub reports : Reports old now made.does made.is rebuilt.report

-- the folder as it was, or as it is rebuilt
abbrev pub IsOldOrRebuilt : Folder → ℕ → Folder → Type 0
IsOldOrRebuilt old now new = (new ≡ old) ⊎ IsRebuilt old now new

-- Behind Ok the folder is rebuilt. Want of memory leaves it as it was, and a fault of the disk that
-- or the rebuilt one.
abbrev pub LeavesRebuilt : Folder → ℕ → Folder → Result Rebuilt RebuildFault → Type 0
LeavesRebuilt old now new (Ok rebuilt) = Rebuilds old now new rebuilt
LeavesRebuilt old now new (Err fault.NoMemory) = new ≡ old
LeavesRebuilt old now new (Err (fault.Disk faults)) = IsOldOrRebuilt old now new

-- So it is at a reading of the clock, which is this one where the clock tells; and a crash at any
-- moment leaves a settled folder as it was, or rebuilt at that reading.
pub record RebuildsAt {S : Type 0} (sees : SeesFolder S) (told : Type 0) (reading : ℕ)
    (old new : S) (result : Result Rebuilt RebuildFault) : Type 0 where
  pub now : ℕ
  pub clock : told → now ≡ reading
  pub leaves : LeavesRebuilt (sees.files old) now (sees.files new) result
  pub crash : IsSettled sees old
      → LeavesOnly sees old new (IsOldOrRebuilt (sees.files old) now)

-- the disk failed only with this
abbrev pub OnDisk : {A : Type 0} → Result A RebuildFault → (ℕ → Type 0) → Type 0
OnDisk (Err (fault.Disk faults)) P = P faults
OnDisk r P = ⊤

-- this holds, unless the disk failed
abbrev pub UnlessDisk : {A : Type 0} → Result A RebuildFault → Type 0 → Type 0
UnlessDisk (Err (fault.Disk faults)) P = ⊤
UnlessDisk result P = P

-- a fault of the disk comes only where a count rose, and tells the count; the count never falls
pub record HasCause {A : Type 0} (before now : ℕ) (result : Result A RebuildFault) : Type 0 where
  pub later : before ≤ now
  pub rose : OnDisk result (λ faults. (faults ≡ now) × Rose before now)
