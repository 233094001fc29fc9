-- The files that are written before a group.
use Rattle.std.specs.Prelude.{◌≡◌, ◌≢◌, ℕ, ◌+◌, ◌^◌, ◌<◌, List, length, Some, Result, OnOk, ⊤}
use Rattle.dv_shelf.specs.declared.shelf.Name.{Name}
use Rattle.dv_shelf.specs.declared.shelf.Name.TheVariants as name
use Rattle.dv_shelf.specs.Crashes.{LeavesOnly}
use Rattle.dv_shelf.specs.Folders.{ChangesOnly, Folder, TornFile, contents, patched}
use Rattle.dv_shelf.specs.Sees.{SeesFolder}
use Rattle.dv_logfile.specs.Gates.{FromOneOf}
use Rattle.dv_files.specs.Leavings.{IsPut}
use Rattle.dv_filing.specs.declared.steps.Files.{Files}
use Rattle.dv_filing.specs.declared.steps.Files.TheVariants as files

-- a text ends where a number of 32 bits can say it
abbrev pub HasRoom : Files → Type 0
HasRoom files.Nothing = ⊤
HasRoom (files.Text file at text) = at + length text < 2 ^ 32
HasRoom (files.File file text) = ⊤

-- at any moment of its writing a folder is so, by one from before
abbrev pub IsWriting : Files → Folder → Folder → Type 0
IsWriting files.Nothing d c = c ≡ d
IsWriting (files.Text file at text) d c = ChangesOnly (name.Mail file) (TornFile at (length text)) d c
IsWriting (files.File file text) d c = IsPut (name.Mail file) text d c

-- the other files are as in one folder, and this one as it was read, with the text at its place
pub record HasText (file at : ℕ) (text : List ℕ) (read d c : Folder) : Type 0 where
  pub there : c (name.Mail file) ≡ Some (patched (contents read (name.Mail file)) at text)
  pub others : (n : Name) → n ≢ name.Mail file → c n ≡ d n

-- it has this text alone
pub record HasFile (file : ℕ) (text : List ℕ) (d c : Folder) : Type 0 where
  pub there : c (name.Mail file) ≡ Some text
  pub others : (n : Name) → n ≢ name.Mail file → c n ≡ d n

-- when it is written a folder is so, by one from before and the files as they were read
abbrev pub IsWritten : Files → Folder → Folder → Folder → Type 0
IsWritten files.Nothing read d c = c ≡ d
IsWritten (files.Text file at text) read d c = HasText file at text read d c
IsWritten (files.File file text) read d c = HasFile file text d c

-- what was written stands in a folder: a text at its place in the file from before, whose other
-- bytes are as they were, or a whole file
abbrev pub HasWritten : Files → Folder → Folder → Type 0
HasWritten files.Nothing old new = ⊤
HasWritten (files.Text file at text) old new =
    new (name.Mail file) ≡ Some (patched (contents old (name.Mail file)) at text)
HasWritten (files.File file text) old new = new (name.Mail file) ≡ Some text

-- it is the file that is written
abbrev pub IsNamed : Files → Name → Type 0
IsNamed files.Nothing n = ⊥
IsNamed (files.Text file at text) n = n ≡ name.Mail file
IsNamed (files.File file text) n = n ≡ name.Mail file

-- What the writing leaves of a folder: at any moment, and behind Ok. It takes what a shelf shows.
pub record WritesFiles {S : Type 0} (sees : SeesFolder S) (steps : Files) {T E : Type 0}
    (result : Result T E) (old new : S) : Type 0 where
  pub since : LeavesOnly sees old new (FromOneOf (sees.may_leave old) (IsWriting steps))
  pub follows : (c : Folder) → sees.may_leave new c
      → (d : Folder) × sees.may_leave old d × IsWriting steps d c
  pub written : OnOk result ((c : Folder) → sees.may_leave new c
      → (d : Folder) × sees.may_leave old d × IsWritten steps (sees.files old) d c)
  pub others : (n : Name) → (IsNamed steps n → ⊥) → sees.files new n ≡ sees.files old n
