-- The files of a mailbox folder as they are kept while it is opened.
use Rattle.std.specs.Prelude.{◌≡◌, ℕ, ◌*◌, ◌≤◌, List, length, Option, Some, None, option_map, Result, Ok, Err, ⊤}
use Rattle.dv_model.specs.declared.types.OpenFault.{OpenFault}
use Rattle.dv_model.specs.declared.types.OpenFault.TheVariants as fault
use Rattle.dv_logfile.specs.Layout.{last_end}
use Rattle.dv_logfile.specs.Scans.{Spot, GoodLog, BadHeader, BadSpot, IsGood, IsScanned}
use Rattle.dv_openings.specs.Openings.{Snapshot}
use Rattle.dv_chain.specs.declared.file.File.{File}
use Rattle.dv_chain.specs.declared.index.Index.{Index}

-- the good file with these records
abbrev pub good_file : File → List Spot → GoodLog
good_file file spots = record { header = file.header; spots = spots; end = file.end }

-- the header stands in the file
abbrev pub HasHeader : File → Type 0
HasHeader file = file.header.hdr_size ≤ length file.bytes

-- and names an index; so do the records, each of eight bytes at least
pub record IsWhole (file : File) : Type 0 where
  pub header : HasHeader file
  pub named : 1 ≤ file.header.indexid
  pub inside : file.end ≤ length file.bytes
  pub fits : file.end ≤ last_end
  pub count : 8 * file.count ≤ file.end

-- the file is good and has these records
pub record HasSpots (spots : List Spot) (file : File) : Type 0 where
  pub good : IsGood (good_file file spots) file.bytes
  pub count : file.count ≡ length spots
  pub whole : IsWhole file

-- a record may begin or end at this place
abbrev pub IsInside : File → ℕ → Type 0
IsInside file place = (place ≤ length file.bytes) × (place ≤ last_end)

-- a good file was read, or what is said of the bytes is so
abbrev pub ReadsFile : List ℕ → Result File OpenFault → Type 0
ReadsFile b (Ok file) = (file.bytes ≡ b) × ((spots : List Spot) × HasSpots spots file)
ReadsFile b (Err fault.NoMemory) = ⊤
ReadsFile b (Err fault.BadLogHeader) = IsScanned (Some b) BadHeader
ReadsFile b (Err (fault.BadRecord offset)) = IsScanned (Some b) (BadSpot offset)
ReadsFile b (Err other) = ⊥

-- a file and a good one are the same
abbrev pub IsFileOf : Option File → Option GoodLog → Type 0
IsFileOf None good = good ≡ None
IsFileOf (Some file) good =
    (spots : List Spot) × HasSpots spots file × (good ≡ Some (good_file file spots))

-- the snapshot that was read
abbrev pub snapshot_of : Index → Snapshot
snapshot_of index = record {
  version = index.version;
  mailbox = index.mailbox;
  indexid = index.indexid;
  mark = index.mark;
}

-- where there is one
abbrev pub snapshot_in : Option Index → Option Snapshot
snapshot_in index = option_map snapshot_of index
