-- What some of a system's calls do to a folder.
use Rattle.std.specs.Prelude.{◌≡◌, ◌≢◌, ◌⊎◌, ℕ, ◌≤◌, false, List, length, Option, Some, Result, IsErr, OnOk, OnErr}
use Rattle.dv_shelf.specs.declared.shelf.Name.{Name}
use Rattle.dv_shelf.specs.Folders.{Folder, with_file, contents, patched, ChangesOnly, TornFile, IsEither}
use Rattle.dv_shelf.specs.Crashes.{Follows, FollowsNone, Elapses}
use Rattle.dv_shelf.specs.Disks.{settled_version}
use Rattle.dv_system.specs.declared.system.Entry.TheVariants as entry
use Rattle.dv_system.specs.Entries.{At, written_at}
use Rattle.dv_system.specs.Disks.{Disk, LeftBy, changed, files_of}

-- Calls that change no file, and leave a crash nothing that it didn't leave before. It takes the
-- system's members `disk`, `moment` and `left_since`, as those below do.
pub record IsQuiet {S : Type 0} (disk : S → Disk) (moment : S → ℕ)
    (left_since : S → ℕ → Folder → Type 0) (old new : S) : Type 0 where
  pub files : files_of (disk new) ≡ files_of (disk old)
  pub crash : FollowsNone (LeftBy (disk old)) (LeftBy (disk new))
  pub time : Elapses (moment old) (moment new) (left_since old) (left_since new) (LeftBy (disk old))

-- Calls that put this file at a name, or none: a crash leaves it or the old one.
pub record Puts {S T E : Type 0} (disk : S → Disk) (moment : S → ℕ)
    (left_since : S → ℕ → Folder → Type 0) (name : Name) (that : Option (List ℕ))
    (result : Result T E) (old new : S) : Type 0 where
  pub ok : OnOk result (files_of (disk new) ≡ with_file (files_of (disk old)) name that)
  pub err : OnErr result
      (ChangesOnly name (IsEither that) (files_of (disk old)) (files_of (disk new)))
  pub durable : OnOk result ((c : Folder) → LeftBy (disk new) c → c name ≡ that)
  pub crash : Follows (ChangesOnly name (IsEither that)) (LeftBy (disk old)) (LeftBy (disk new))
  pub time : Elapses (moment old) (moment new) (left_since old) (left_since new) (LeftBy (disk new))

-- Calls that write bytes over a file from a place on.
pub record Writes {S T E : Type 0} (disk : S → Disk) (moment : S → ℕ)
    (left_since : S → ℕ → Folder → Type 0) (name : Name) (at : ℕ) (bytes : List ℕ)
    (result : Result T E) (old new : S) : Type 0 where
  pub ok : OnOk result (files_of (disk new) ≡ with_file (files_of (disk old)) name
      (Some (patched (contents (files_of (disk old)) name) at bytes)))
  pub err : OnErr result (ChangesOnly name (TornFile at (length bytes))
      (files_of (disk old)) (files_of (disk new)))
  pub crash : Follows (ChangesOnly name (TornFile at (length bytes)))
      (LeftBy (disk old)) (LeftBy (disk new))
  pub time : Elapses (moment old) (moment new) (left_since old) (left_since new) (LeftBy (disk new))

-- two entries of which reads give the same, and a crash leaves the same
pub record IsAlike (a b : At) : Type 0 where
  pub first : a.first ≡ b.first
  pub others : a.others ≡ b.others

-- the entry of one name is as this one, and the others are as before
pub record OnlyAt (name : Name) (at : At) (old new : Disk) : Type 0 where
  pub place : new.place ≡ old.place
  pub here : IsAlike (new.named name) at
  pub others : (n : Name) → n ≢ name → IsAlike (new.named n) (old.named n)

-- nothing changes but the temporary file
pub record LeavesNames (old new : Disk) : Type 0 where
  pub place : new.place ≡ old.place
  pub named : new.named ≡ old.named

-- a crash leaves the file's bytes so, and no sync of it failed
pub record IsDurable (at : At) (file : Option (List ℕ)) : Type 0 where
  pub first : at.first ≡ settled_version file
  pub sure : at.is_doubted ≡ false

-- bytes were written over a name's file, of which reads see all, or after a failure some
pub record IsWritten {T E : Type 0} (name : Name) (at : ℕ) (bytes : List ℕ) (result : Result T E)
    (old new : Disk) : Type 0 where
  pub stuck : List ℕ
  pub short : length stuck ≤ length bytes
  pub all : OnOk result (stuck ≡ bytes)
  pub is : new ≡ changed (written_at at (length bytes) stuck) old (entry.File name)

-- so they were, or the call failed and nothing changed
abbrev pub Wrote : {T E : Type 0} → Name → ℕ → List ℕ → Result T E → Disk → Disk → Type 0
Wrote name at bytes result old new =
    IsWritten name at bytes result old new ⊎ (IsErr result × (new ≡ old))

-- Calls that make a file durable as reads give it, and change no file.
pub record Syncs {S T E : Type 0} (disk : S → Disk) (moment : S → ℕ)
    (left_since : S → ℕ → Folder → Type 0) (name : Name) (result : Result T E) (old new : S)
    : Type 0 where
  pub durable :
      OnOk result ((c : Folder) → LeftBy (disk new) c → c name ≡ files_of (disk new) name)
  pub quiet : IsQuiet disk moment left_since old new
