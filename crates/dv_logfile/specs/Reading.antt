-- What is read of a log that a crash or a failure left: its records up to the first closed place.
use Rattle.std.specs.Prelude.{◌≡◌, ◌≢◌, ◌⊎◌, ℕ, ◌+◌, ◌-◌, ◌<◌, List, ◌++◌, length, drop, slice_index}
use Rattle.dv_model.specs.declared.types.Record.{Record}
use Rattle.dv_shelf.specs.declared.shelf.Name.{Name}
use Rattle.dv_shelf.specs.declared.shelf.Name.TheVariants.{Log}
use Rattle.dv_shelf.specs.Folders.{Folder, contents}
use Rattle.dv_logfile.specs.declared.commit.Debt.{Debt}
use Rattle.dv_logfile.specs.declared.commit.Debt.TheVariants as debt
use Rattle.dv_logfile.specs.declared.header.LogHeader.{LogHeader}
use Rattle.dv_logfile.specs.Layout.{Begins, IsLog, Spelled, closing, bytes_at}

-- the gate at e is shut: the log goes on there with a byte that begins no record
abbrev pub HasShutGate : ℕ → List ℕ → Type 0
HasShutGate e log = (e < length log) × (slice_index log e ≢ 0x80)

-- a group stands behind the gate at e, which may be open
abbrev pub HasGroup : ℕ → List ℕ → List ℕ → Type 0
HasGroup e text log = (e < length log) × (bytes_at (e + 1) (length text - 1) log ≡ drop 1 text)

-- At rest: in each outcome of a crash the gate is shut or, with the debt Gate, the pending group stands behind it.
abbrev pub IsAtRest : Debt → ℕ → List ℕ → (Folder → Type 0) → Type 0
IsAtRest debt.None e pending outcomes = (c : Folder) → outcomes c → HasShutGate e (contents c Log)
IsAtRest debt.Gate e pending outcomes = (c : Folder) → outcomes c → HasGroup e pending (contents c Log)

-- the log begins as before, and the other files are as before
pub record Keeps (e : ℕ) (old new : Folder) : Type 0 where
  pub front : (h : LogHeader) (rs : List Record) → Begins h rs e (contents old Log) → Begins h rs e (contents new Log)
  pub others : (n : Name) → n ≢ Log → new n ≡ old n

-- it is a log of the records up to e
pub record ReadsAs (e : ℕ) (old new : Folder) : Type 0 where
  pub keeps : Keeps e old new
  pub log : (h : LogHeader) (rs : List Record) → Begins h rs e (contents old Log) → IsLog h rs e (contents new Log)

-- it is a log of the records up to e and of the group's
pub record ReadsWith (e : ℕ) (text : List ℕ) (old new : Folder) : Type 0 where
  pub keeps : Keeps e old new
  pub log : (h : LogHeader) (rs group : List Record) (end : ℕ) → Begins h rs e (contents old Log) → Spelled group text closing → end + 4 ≡ e + length text → IsLog h (rs ++ group) end (contents new Log)

-- it is a log of the records up to e, or of those and the group's
abbrev pub ReadsEither : ℕ → List ℕ → Folder → Folder → Type 0
ReadsEither e text old new = ReadsAs e old new ⊎ ReadsWith e text old new

-- with no debt the group isn't read, with the debt Gate it may be
abbrev pub ReadsLeft : Debt → ℕ → List ℕ → Folder → Folder → Type 0
ReadsLeft debt.None e text old new = ReadsAs e old new
ReadsLeft debt.Gate e text old new = ReadsEither e text old new
