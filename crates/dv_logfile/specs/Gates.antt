-- What a commit leaves of a log, also where a crash or a failure cuts it short. The gate is the byte at the log's end: a
-- group whose bytes stand behind it is there once the gate is the first byte of a size, 0x80.
use Rattle.std.specs.Prelude.{◌≡◌, ◌≢◌, ◌⊎◌, ℕ, ◌+◌, ◌-◌, ◌<◌, ◌≤◌, max, List, length, take, drop, Some, Result, IfErr}
use Rattle.dv_shelf.specs.declared.shelf.Name.{Name}
use Rattle.dv_shelf.specs.declared.shelf.Name.TheVariants.{Log}
use Rattle.dv_model.specs.Counts.{Rose}
use Rattle.dv_shelf.specs.Folders.{Folder, contents}
use Rattle.dv_logfile.specs.declared.commit.CommitFault.{CommitFault}
use Rattle.dv_logfile.specs.declared.commit.CommitFault.TheVariants.{Disk}
use Rattle.dv_logfile.specs.declared.commit.Debt.{Debt}
use Rattle.dv_logfile.specs.declared.commit.Debt.TheVariants as debt
use Rattle.dv_logfile.specs.Layout.{bytes_at}

-- the log's bytes before e are as they were, and so are the other files
pub record KeepsFront (old : Folder) (e most : ℕ) (folder : Folder) : Type 0 where
  pub log : List ℕ
  pub is : folder Log ≡ Some log
  pub front : take e log ≡ take e (contents old Log)
  pub no_shorter : length (contents old Log) ≤ length log
  pub no_longer : length log ≤ max (length (contents old Log)) most
  pub others : (n : Name) → n ≢ Log → folder n ≡ old n

-- the gate is as it was, whatever stands behind it
pub record IsShut (old : Folder) (e : ℕ) (text : List ℕ) (folder : Folder) : Type 0 where
  pub kept : KeepsFront old e (e + length text) folder
  pub gate : bytes_at e 1 kept.log ≡ bytes_at e 1 (contents old Log)

-- the group stands whole behind the gate, which may be open
pub record IsStaged (old : Folder) (e : ℕ) (text : List ℕ) (folder : Folder) : Type 0 where
  pub kept : KeepsFront old e (e + length text) folder
  pub group : bytes_at (e + 1) (length text - 1) kept.log ≡ drop 1 text

-- the group stands there with its first byte
pub record IsOpen (old : Folder) (e : ℕ) (text : List ℕ) (folder : Folder) : Type 0 where
  pub kept : KeepsFront old e (e + length text) folder
  pub group : bytes_at e (length text) kept.log ≡ text

-- the gate is as it was, or the whole group stands behind it
abbrev pub IsBeforeOrAfter : Folder → ℕ → List ℕ → Folder → Type 0
IsBeforeOrAfter old e text folder = IsShut old e text folder ⊎ IsStaged old e text folder

-- with no debt the gate is as it was; with the debt Gate the group stands behind it
abbrev pub IsLeft : Debt → Folder → ℕ → List ℕ → Folder → Type 0
IsLeft debt.None old e text folder = IsShut old e text folder
IsLeft debt.Gate old e text folder = IsStaged old e text folder

-- the log goes on behind e in each outcome of a crash
abbrev pub AreLong : ℕ → (Folder → Type 0) → Type 0
AreLong e outcomes = (c : Folder) → outcomes c → e < length (contents c Log)

-- each outcome of a crash is one from before, but for what a commit does to the log
abbrev pub FromOneOf : (Folder → Type 0) → (Folder → Folder → Type 0) → Folder → Type 0
FromOneOf before step c = (d : Folder) × before d × step d c

-- a fault of the disk comes only where a count rose, and tells the count; the count never falls
pub record HasDiskCause {T : Type 0} (before now : ℕ) (result : Result T CommitFault) : Type 0 where
  pub later : before ≤ now
  pub rose : IfErr result (λ fault. (fault ≡ Disk now) × Rose before now)
