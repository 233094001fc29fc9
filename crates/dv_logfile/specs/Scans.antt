-- What a log file holds: its records with their places, or why it has none.
use Rattle.std.specs.Prelude.{◌≡◌, ℕ, ◌+◌, ◌≤◌, ◌<◌, false, true, List, [], ◌∷◌, ◌++◌, length, drop, Option, Some, None, Result, Ok, Err, ⊤}
use Rattle.dv_model.specs.declared.types.Record.{Record}
use Rattle.dv_model.specs.Spelling.{Spells, is_closed}
use Rattle.dv_logfile.specs.declared.header.LogHeader.{LogHeader}
use Rattle.dv_logfile.specs.declared.outcome.Scan.{Scan}
use Rattle.dv_logfile.specs.declared.outcome.ScanEnd.{ScanEnd}
use Rattle.dv_logfile.specs.declared.outcome.ScanEnd.TheVariants as end
use Rattle.dv_logfile.specs.Layout.{IsHeader, IsOneLog, last_end}

-- a record with its place in the file
pub record Spot : Type 0 where
  pub place : ℕ
  pub is : Record

-- a good file: its header, its records, and the closed place behind them
pub record GoodLog : Type 0 where
  pub header : LogHeader
  pub spots : List Spot
  pub end : ℕ

-- the file is missing, its header is refused, a record at a place has a fault, or it is good
pub data Scanned : Type 0 where
  Missing : Scanned
  BadHeader : Scanned
  BadSpot : ℕ → Scanned
  Good : GoodLog → Scanned

-- spellings of records one after another, from a place on, none of which ends past the last end; and then the rest
abbrev pub AreSpots : ℕ → List Spot → List ℕ → ℕ → List ℕ → Type 0
AreSpots from [] b end rest = (end ≡ from) × (rest ≡ b)
AreSpots from (spot ∷ spots) b end rest =
    (spot.place ≡ from) × ((text behind : List ℕ) × (b ≡ text ++ behind) × Spells spot.is text × (from + length text ≤ last_end) × AreSpots (from + length text) spots behind end rest)

-- these bytes don't stand closed, and no record begins them that ends in time
pub record IsFaulty (from : ℕ) (b : List ℕ) : Type 0 where
  pub begun : is_closed b ≡ false
  pub none : (r : Record) (text behind : List ℕ) → b ≡ text ++ behind → Spells r text → last_end < from + length text

-- behind good records one has a fault
pub record HasFault (h : LogHeader) (b : List ℕ) (place : ℕ) : Type 0 where
  pub spots : List Spot
  pub rest : List ℕ
  pub before : AreSpots h.hdr_size spots (drop h.hdr_size b) place rest
  pub fault : IsFaulty place rest

-- the file has a good header, good records and a closed place behind them
pub record IsGood (file : GoodLog) (b : List ℕ) : Type 0 where
  pub taken : IsHeader file.header b
  pub rest : List ℕ
  pub records : AreSpots file.header.hdr_size file.spots (drop file.header.hdr_size b) file.end rest
  pub closed : is_closed rest ≡ true

-- what a file holds, by its bytes
abbrev pub IsScanned : Option (List ℕ) → Scanned → Type 0
IsScanned None Missing = Unit {0}
IsScanned (Some b) BadHeader = (h : LogHeader) → IsHeader h b → ⊥
IsScanned (Some b) (BadSpot place) = (h : LogHeader) × IsHeader h b × HasFault h b place
IsScanned (Some b) (Good file) = IsGood file b
IsScanned file scanned = ⊥

-- ---- what is answered

-- each record with its place, as long as there are both
abbrev pub spots_of : List ℕ → List Record → List Spot
spots_of [] records = []
spots_of (place ∷ places) [] = []
spots_of (place ∷ places) (r ∷ rs) = record { place = place; is = r } ∷ spots_of places rs

-- the good file that was read
abbrev pub good_of : Scan → GoodLog
good_of scan = record { header = scan.header; spots = spots_of scan.places scan.records; end = scan.end }

-- what is said of the file is so; where memory ran out nothing is said
abbrev pub Says : Result Scan ScanEnd → (Scanned → Type 0) → Type 0
Says (Ok scan) P = P (Good (good_of scan))
Says (Err end.BadHeader) P = P BadHeader
Says (Err (end.BadRecord offset)) P = P (BadSpot offset)
Says (Err end.NoMemory) P = ⊤

-- this log was read, unless memory ran out
abbrev pub IsLogScan : Result Scan ScanEnd → LogHeader → List Record → ℕ → Type 0
IsLogScan (Ok scan) h rs e = IsOneLog scan.header h scan.records rs scan.end e
IsLogScan (Err end.NoMemory) h rs e = ⊤
IsLogScan (Err fault) h rs e = ⊥
