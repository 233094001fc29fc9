-- A folder on a disk, as the system's calls make it.
use Rattle.std.specs.Prelude.{◌≡◌, ◌⊎◌, ◌↔◌, Bool, true, false, cond, List, None, IsSome, Contains, AllPairs, ◌≢◌}
use Rattle.dv_shelf.specs.declared.shelf.Name.{Name}
use Rattle.dv_shelf.specs.Folders.{Folder, same_name}
use Rattle.dv_shelf.specs.Disks.{Gone}
use Rattle.dv_shelf.specs.Images.{IsFileImage}
use Rattle.dv_system.specs.declared.system.Entry.{Entry}
use Rattle.dv_system.specs.declared.system.Entry.TheVariants as entry
use Rattle.dv_system.specs.Entries.{At, absent, read_at, put_at, IsEntryImage}

-- The folder's own entry in its parent: missing; loose, so that a crash may take the folder away;
-- doubted, since a sync of the parent failed; or firm.
pub data Place : Type 0 where
  Missing : Place
  Loose : Place
  Doubted : Place
  Firm : Place

-- a crash may take the folder away
abbrev pub may_vanish : Place → Bool
may_vanish Missing = true
may_vanish Loose = true
may_vanish Doubted = true
may_vanish Firm = false

-- there is no folder
abbrev pub is_missing : Place → Bool
is_missing Missing = true
is_missing Loose = false
is_missing Doubted = false
is_missing Firm = false

-- a folder was made, where there was none
abbrev pub made_place : Place → Place
made_place Missing = Loose
made_place Loose = Loose
made_place Doubted = Doubted
made_place Firm = Firm

-- a sync of the parent answered Ok
abbrev pub firm_place : Place → Place
firm_place Missing = Missing
firm_place Loose = Firm
firm_place Doubted = Doubted
firm_place Firm = Firm

-- a sync of the parent failed
abbrev pub doubted_place : Place → Place
doubted_place Missing = Missing
doubted_place Loose = Doubted
doubted_place Doubted = Doubted
doubted_place Firm = Firm

-- the folder, its entries of the five kinds of names, and the temporary one
pub record Disk : Type 0 where
  pub place : Place
  pub named : Name → At
  pub temporary : At

-- what stands at an entry
abbrev pub at_entry : Disk → Entry → At
at_entry disk (entry.File name) = disk.named name
at_entry disk entry.Temporary = disk.temporary

-- one name's entry changes
abbrev pub with_named : (Name → At) → Name → At → Name → At
with_named named name at = λ n. cond (same_name name n) at (named n)

-- one entry changes
abbrev pub with_entry : Disk → Entry → At → Disk
with_entry disk (entry.File name) at = record {
  place = disk.place;
  named = with_named disk.named name at;
  temporary = disk.temporary;
}
with_entry disk entry.Temporary at =
    record { place = disk.place; named = disk.named; temporary = at }

-- an entry changes so
abbrev pub changed : (At → At) → Disk → Entry → Disk
changed change disk entry = with_entry disk entry (change (at_entry disk entry))

-- the temporary file comes to stand at a name, in place of what stood there
abbrev pub renamed : Disk → Name → Disk
renamed disk name = record {
  place = disk.place;
  named = with_named disk.named name
      (put_at disk.temporary.first disk.temporary.is_doubted (disk.named name));
  temporary = absent;
}

-- each entry of a name changes so
abbrev pub changed_names : (At → At) → Disk → Disk
changed_names change disk = record {
  place = disk.place;
  named = λ n. change (disk.named n);
  temporary = disk.temporary;
}

-- the folder's own entry changes so
abbrev pub with_place : (Place → Place) → Disk → Disk
with_place change disk = record {
  place = change disk.place;
  named = disk.named;
  temporary = disk.temporary;
}

-- the files of the names, as reads give them
abbrev pub files_of : Disk → Folder
files_of disk = λ n. read_at (disk.named n)

-- An image of each entry, or no file at all where a crash may take the folder away.
unfoldable pub LeftBy : Disk → Folder → Type 0
LeftBy disk folder =
    ((n : Name) → IsEntryImage (disk.named n) (folder n))
    ⊎ ((may_vanish disk.place ≡ true) × ((n : Name) → folder n ≡ None))

-- a crash may leave each file as reads give it
abbrev pub IsReadable : Disk → Type 0
IsReadable disk = (n : Name) → IsFileImage (disk.named n).first (read_at (disk.named n))

-- A call that failed may have changed the folder so, or not; where it changed it, reads may see it
-- or not.
abbrev pub IsOneOf : Disk → Disk → Disk → Disk → Type 0
IsOneOf old shown hidden new = (new ≡ old) ⊎ ((new ≡ shown) ⊎ (new ≡ hidden))

-- the same of a call of which reads see nothing
abbrev pub IsUnchangedOr : Disk → Disk → Disk → Type 0
IsUnchangedOr old changed new = (new ≡ old) ⊎ (new ≡ changed)

-- the entries at which files stand, once each
pub record ListsEntries (disk : Disk) (entries : List Entry) : Type 0 where
  pub each : (e : Entry) → IsSome (read_at (at_entry disk e)) ↔ Contains entries e
  pub once : AllPairs (λ a b. a ≢ b) entries

-- a file was there and is removed, or it wasn't
abbrev pub Unlinks : Bool → Entry → Disk → Disk → Type 0
Unlinks true there old new = new ≡ changed (put_at Gone false) old there
Unlinks false there old new = (new ≡ old) × (read_at (at_entry old there) ≡ None)
