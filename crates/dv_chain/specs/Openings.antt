-- What opening answers, and what it leaves of the folder.
use Rattle.std.specs.Prelude.{◌≡◌, ◌≢◌, ◌⊎◌, ◌↔◌, ℕ, ◌*◌, ◌≤◌, List, length, Option, Some, Result, Ok, Err, IfSome, ⊤}
use Rattle.dv_model.specs.declared.types.Mailbox.{Mailbox}
use Rattle.dv_model.specs.declared.types.OpenFault.{OpenFault}
use Rattle.dv_model.specs.declared.types.OpenFault.TheVariants as fault
use Rattle.dv_model.specs.Counts.{Rose}
use Rattle.dv_model.specs.Mailboxes.{IsValid}
use Rattle.dv_shelf.specs.declared.shelf.Name.{Name}
use Rattle.dv_shelf.specs.declared.shelf.Name.TheVariants as name
use Rattle.dv_shelf.specs.Folders.{Folder, with_file, contents}
use Rattle.dv_shelf.specs.Crashes.{FollowsNone, LeavesOnly}
use Rattle.dv_logfile.specs.declared.commit.Debt.TheVariants as debt
use Rattle.dv_logfile.specs.Layout.{last_end}
use Rattle.dv_logfile.specs.Scans.{Spot, GoodLog, Scanned, Good, IsScanned}
use Rattle.dv_openings.specs.Numbers.{IsNamed}
use Rattle.dv_openings.specs.Openings as found
use Rattle.dv_openings.specs.Openings.{Found, Finds, IsFound, end_mark, IsIndex, Snapshot, mended, joining, counted}
use Rattle.dv_apply.specs.States.{Held}
use Rattle.dv_chain.specs.declared.chain.Chain.{Chain}
use Rattle.dv_chain.specs.declared.file.File.{File}
use Rattle.dv_chain.specs.declared.index.Index.{Index}
use Rattle.dv_chain.specs.declared.opening.Files.{Files}
use Rattle.dv_chain.specs.Walks.{OnDisk}
use Rattle.dv_chain.specs.Files.{HasHeader, HasSpots, IsFileOf, IsWhole, good_file, snapshot_in}
use Rattle.dv_shelf.specs.Sees.{SeesFolder}

-- what a fault says is found; where memory ran out or the disk failed nothing is said
abbrev pub FaultFound : OpenFault → (Found → Type 0) → Type 0
FaultFound fault.NoLog P = P found.NoLog
FaultFound fault.BadLogHeader P = P found.BadLogHeader
FaultFound (fault.BadRecord offset) P = P (found.BadRecord offset)
FaultFound fault.BadIndex P = P found.BadIndex
FaultFound (fault.Gap index log) P = P (found.Gap index log)
FaultFound fault.NoMemory P = ⊤
FaultFound (fault.Disk faults) P = ⊤

-- this holds, unless the disk failed
abbrev pub UnlessDisk : {A : Type 0} → Result A OpenFault → Type 0 → Type 0
UnlessDisk (Err (fault.Disk faults)) P = ⊤
UnlessDisk result P = P

-- what is answered is found
abbrev pub Answers : {A : Type 0} → (A → Found) → Result A OpenFault → (Found → Type 0) → Type 0
Answers of (Ok x) P = P (of x)
Answers of (Err e) P = FaultFound e P

-- so is the mailbox at the log's end
abbrev pub Joins : GoodLog → Result Held OpenFault → Found → Type 0
Joins log result found = Answers (λ live. Finds live.mailbox (end_mark log)) result (λ f. f ≡ found)

-- the mailbox of a chain, and its place
abbrev pub found_of : Chain → Found
found_of chain =
    Finds chain.live.mailbox (record { file_seq = chain.log.file_seq; offset = chain.log.end })

-- the chain stands on the folder's log, behind its last record, and owes nothing
pub record IsChainOf (folder : Folder) (chain : Chain) : Type 0 where
  pub file : GoodLog
  pub scanned : IsScanned (folder name.Log) (Good file)
  pub seq : chain.log.file_seq ≡ file.header.file_seq
  pub end : chain.log.end ≡ file.end
  pub count : chain.log.count ≡ length file.spots
  pub debt : chain.log.debt ≡ debt.None
  pub indexid : chain.indexid ≡ file.header.indexid
  pub records : chain.records ≡ file.header.initial_modseq

-- four bytes more fit behind its end, each record has eight at least, and the index has a number
pub record HasBounds (chain : Chain) : Type 0 where
  pub end : chain.log.end ≤ last_end
  pub count : 8 * chain.log.count ≤ chain.log.end
  pub named : 1 ≤ chain.indexid

-- the other folder opens to the same, of the mailbox of the same number, and the files but the log
-- are as they were
pub record IsQuiet (old new : Folder) : Type 0 where
  pub opens : (f : Found) → IsFound old f ↔ IsFound new f
  pub named : (indexid : ℕ) → IsNamed old indexid ↔ IsNamed new indexid
  pub others : (n : Name) → n ≢ name.Log → new n ≡ old n

-- Behind Ok the log's end is mended, and nothing else is changed. A fault of the disk leaves a
-- folder that opens to the same, and any other the folder as it was.
abbrev pub LeavesFolder : Folder → Folder → Result Chain OpenFault → Type 0
LeavesFolder old new (Ok chain) =
    new ≡ with_file old name.Log (Some (mended (contents old name.Log) chain.log.end))
LeavesFolder old new (Err (fault.Disk faults)) = IsQuiet old new
LeavesFolder old new (Err other) = new ≡ old

-- a fault of the disk comes only where a count rose, and tells the count; the count never falls
pub record HasCause {A : Type 0} (before now : ℕ) (result : Result A OpenFault) : Type 0 where
  pub later : before ≤ now
  pub rose : OnDisk result (λ faults. (faults ≡ now) × Rose before now)

-- Nothing was changed: the files are as they were, and a crash leaves and left nothing more. It
-- takes what a shelf shows.
pub record OnlyLooks {S : Type 0} (sees : SeesFolder S) (old new : S) : Type 0 where
  pub same : sees.files new ≡ sees.files old
  pub crash : FollowsNone (sees.may_leave old) (sees.may_leave new)
  pub since : LeavesOnly sees old new (sees.may_leave old)

-- memory ran out, or the disk failed
abbrev pub IsOutside : OpenFault → Type 0
IsOutside fault.NoMemory = ⊤
IsOutside (fault.Disk faults) = ⊤
IsOutside other = ⊥

-- ---- what is read

-- the folder's log, a good one
pub record IsLogOf (folder : Folder) (log : File) : Type 0 where
  pub spots : List Spot
  pub has : HasSpots spots log
  pub file : folder name.Log ≡ Some log.bytes

-- the rotated log in a file, where it goes before the log
pub record IsRotatedOf (file : Option (List ℕ)) (log : File) (rotated : Option File) : Type 0 where
  pub scan : Scanned
  pub scanned : IsScanned file scan
  pub is : (spots : List Spot) → IsFileOf rotated (joining (good_file log spots) scan)

-- the snapshot in a file, where it is of the log's mailbox
pub record IsIndexOf (file : Option (List ℕ)) (log : File) (index : Option Index) : Type 0 where
  pub snapshot : Option Snapshot
  pub there : IsIndex file snapshot
  pub is : (spots : List Spot) → snapshot_in index ≡ counted (good_file log spots) snapshot

-- all three
pub record AreFilesOf (folder : Folder) (files : Files) : Type 0 where
  pub log : IsLogOf folder files.log
  pub rotated : IsRotatedOf (folder name.Log2) files.log files.rotated
  pub index : IsIndexOf (folder name.Index) files.log files.index

-- what is read is whole, whatever the folder holds
pub record AreWhole (files : Files) : Type 0 where
  pub log : IsWhole files.log
  pub rotated : IfSome files.rotated HasHeader
  pub index : IfSome files.index (λ index. IsValid index.mailbox)

-- the log with the mailbox that is found at its end
pub record IsEndOf (folder : Folder) (log : File) (m : Mailbox) : Type 0 where
  pub is : IsLogOf folder log
  pub found : IsFound folder (Finds m (end_mark (good_file log is.spots)))

-- ---- what is written

-- the folder as it was, or with the log's end mended
abbrev pub IsMended : Folder → File → Folder → Type 0
IsMended old log new = (new ≡ old) ⊎ (new ≡ with_file old name.Log (Some (mended log.bytes log.end)))

-- behind Ok the log's end is mended
abbrev pub LeavesMended : Folder → File → Folder → Result (Unit {0}) OpenFault → Type 0
LeavesMended old log new (Ok x) = new ≡ with_file old name.Log (Some (mended log.bytes log.end))
LeavesMended old log new (Err fault.NoMemory) = new ≡ old
LeavesMended old log new (Err (fault.Disk faults)) = IsMended old log new
LeavesMended old log new (Err other) = ⊥
