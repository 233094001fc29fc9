-- What is left of message files that are written and removed.
use Rattle.std.specs.Prelude.{◌≡◌, ◌≢◌, ◌⊎◌, ℕ, cond, List, Contains, map, take, None, Result, Ok, Err}
use Rattle.dv_model.specs.Journals.{Held}
use Rattle.dv_shelf.specs.declared.shelf.Name.{Name}
use Rattle.dv_shelf.specs.declared.shelf.Name.TheVariants as name
use Rattle.dv_shelf.specs.Folders.{Folder, IsEither, has_name, with_file}
use Rattle.dv_dbox.specs.BoxTexts.{written}
use Rattle.dv_dbox.specs.Reading.{IsWritable}
use Rattle.dv_files.specs.Leavings.{IsPut}
use Rattle.dv_files.specs.Reading.{guid_at, mail_at}
use Rattle.dv_shelf.specs.Sees.{SeesFolder}

-- ---- a message file that is written

-- the text is written for this message and GUID, whatever the times
pub record IsFileOf (message guid text : List ℕ) : Type 0 where
  pub stamp : ℕ
  pub received : ℕ
  pub writable : IsWritable stamp guid received message
  pub is : text ≡ written stamp guid received message

-- a folder has the message of a UID, with its GUID
pub record HasMail (uid : ℕ) (message guid : List ℕ) (folder : Folder) : Type 0 where
  pub held : mail_at folder uid ≡ Held message
  pub named : guid_at folder uid ≡ guid

-- So have the files as they are read, and each folder that a crash now may leave. It takes what a
-- shelf shows.
pub record HoldsMail {S : Type 0} (sees : SeesFolder S) (uid : ℕ)
    (message guid : List ℕ) (shelf : S) : Type 0 where
  pub seen : HasMail uid message guid (sees.files shelf)
  pub crash : (c : Folder) → sees.may_leave shelf c → HasMail uid message guid c

-- ---- message files that are removed

-- the folder as it was, or without that file
abbrev pub IsRemoved : Name → Folder → Folder → Type 0
IsRemoved name old new = (new ≡ old) ⊎ (new ≡ with_file old name None)

-- behind Ok the file is gone; an error leaves either
abbrev pub Removes : Name → {T E : Type 0} → Result T E → Folder → Folder → Type 0
Removes name (Ok x) old new = new ≡ with_file old name None
Removes name (Err e) old new = IsRemoved name old new

-- the names of the message files of some UIDs
abbrev pub mail_names : List ℕ → List Name
mail_names uids = map (λ uid. name.Mail uid) uids

-- a folder without these files
abbrev pub swept : List ℕ → Folder → Folder
swept uids folder = λ n. cond (has_name (mail_names uids) n) None (folder n)

-- all of them are gone
abbrev pub IsSwept : List ℕ → Folder → Folder → Type 0
IsSwept uids old new = new ≡ swept uids old

-- the files of the first of these UIDs are gone: of none, some or all
abbrev pub IsSweeping : List ℕ → Folder → Folder → Type 0
IsSweeping uids old new = (k : ℕ) × IsSwept (take k uids) old new

-- behind Ok all are gone, behind an error those of the first
abbrev pub Sweeps : List ℕ → {T E : Type 0} → Result T E → Folder → Folder → Type 0
Sweeps uids (Ok x) old new = IsSwept uids old new
Sweeps uids (Err e) old new = IsSweeping uids old new

-- while they are removed each is as before or gone, and every other file is as before
abbrev pub SweepsEach : Type 0
SweepsEach = (uids : List ℕ) (old new : Folder) → IsSweeping uids old new
    → (n : Name) → IsEither (swept uids old n) (old n) (new n)

-- ---- other messages

-- the message file of a UID is as before
abbrev pub KeepsMail : ℕ → Folder → Folder → Type 0
KeepsMail uid old new = new (name.Mail uid) ≡ old (name.Mail uid)

-- so it is where the file of another message was put
abbrev pub StaysAtPut : Type 0
StaysAtPut = (uid other : ℕ) (text : List ℕ) (old new : Folder) → uid ≢ other
    → IsPut (name.Mail other) text old new → KeepsMail uid old new

-- and where the files of others are removed
abbrev pub StaysAtSweep : Type 0
StaysAtSweep = (uid : ℕ) (uids : List ℕ) (old new : Folder) → (Contains uids uid → ⊥)
    → IsSweeping uids old new → KeepsMail uid old new
