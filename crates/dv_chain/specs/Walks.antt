-- What a walk over the records of a file's bytes answers.
use Rattle.std.specs.Prelude.{◌≡◌, ℕ, ◌+◌, ◌-◌, ◌*◌, ◌≤◌, true, List, length, drop, Option, Some, None, Result, Ok, Err, ⊤}
use Rattle.dv_model.specs.declared.types.OpenFault.{OpenFault}
use Rattle.dv_model.specs.declared.types.OpenFault.TheVariants as fault
use Rattle.dv_model.specs.declared.types.Record.{Record}
use Rattle.dv_model.specs.Spelling.{is_closed}
use Rattle.dv_records.specs.Faults.{IsRecordAt}
use Rattle.dv_logfile.specs.Layout.{last_end}
use Rattle.dv_logfile.specs.Scans.{Spot, AreSpots, IsFaulty}
use Rattle.dv_openings.specs.Openings.{Applied, Gives, Refused}
use Rattle.dv_apply.specs.States.{Held}

-- the disk failed only with this
abbrev pub OnDisk : {A : Type 0} → Result A OpenFault → (ℕ → Type 0) → Type 0
OnDisk (Err (fault.Disk faults)) P = P faults
OnDisk r P = ⊤

-- no disk fails where none is called
abbrev pub NoDisk : {A : Type 0} → Result A OpenFault → Type 0
NoDisk result = OnDisk result (λ faults. ⊥)

-- for want of memory, or at a place of which this holds
abbrev pub EndsAt : OpenFault → (ℕ → Type 0) → Type 0
EndsAt fault.NoMemory P = ⊤
EndsAt (fault.BadRecord offset) P = P offset
EndsAt other P = ⊥

-- where a walk ends early, it ends so
abbrev pub OnBadRecord : {A : Type 0} → Result A OpenFault → (ℕ → Type 0) → Type 0
OnBadRecord (Ok x) P = ⊤
OnBadRecord (Err e) P = EndsAt e P

-- a record stands from one place up to another
pub record Skips (b : List ℕ) (at behind : ℕ) : Type 0 where
  pub is : Record
  pub there : IsRecordAt is (behind - at) (drop at b)
  pub rises : (at ≤ behind) × (behind ≤ last_end)

-- so many records stand from one place up to another
pub record IsWalked (from : ℕ) (b : List ℕ) (at count : ℕ) : Type 0 where
  pub spots : List Spot
  pub are : AreSpots from spots (drop from b) at (drop at b)
  pub count_is : count ≡ length spots
  pub bound : from + 8 * count ≤ at
  pub inside : at ≤ length b
  pub fits : at ≤ last_end

-- the records from a place on end at a closed place, or one behind them has a fault
abbrev pub Measures : ℕ → List ℕ → Result (ℕ × ℕ) OpenFault → Type 0
Measures from b (Ok x) = IsWalked from b x.0 x.1 × (is_closed (drop x.0 b) ≡ true)
Measures from b (Err fault.NoMemory) = ⊤
Measures from b (Err (fault.BadRecord offset)) =
    (count : ℕ) × IsWalked from b offset count × IsFaulty offset (drop offset b)
Measures from b (Err other) = ⊥

-- these records stand from a place on, up to a closed place
pub record IsLeft (b : List ℕ) (at : ℕ) (left : List Spot) (end : ℕ) : Type 0 where
  pub rest : List ℕ
  pub are : AreSpots at left (drop at b) end rest
  pub closed : is_closed rest ≡ true

-- records are applied, or the first that is refused is named
abbrev pub Applies : Result Held OpenFault → Applied → Type 0
Applies (Ok live) applied = applied ≡ Gives live.mailbox
Applies (Err fault.NoMemory) applied = ⊤
Applies (Err (fault.BadRecord offset)) applied = applied ≡ Refused offset
Applies (Err other) applied = ⊥

-- the number of records before those that are left, where there is such a place
abbrev pub Counts : Result (Option ℕ) OpenFault → List Spot → Option (List Spot) → Type 0
Counts (Ok None) spots there = there ≡ None
Counts (Ok (Some n)) spots there =
    (left : List Spot) × (there ≡ Some left) × (n + length left ≡ length spots)
Counts (Err fault.NoMemory) spots there = ⊤
Counts (Err other) spots there = ⊥
