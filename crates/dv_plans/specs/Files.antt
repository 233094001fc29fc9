-- The files of a command before its group.
use Rattle.std.specs.Prelude.{◌≡◌, ℕ, List}
use Rattle.dv_model.specs.declared.types.Command.{Command}
use Rattle.dv_model.specs.declared.types.Command.TheVariants as command
use Rattle.dv_model.specs.declared.types.Mailbox.{Mailbox}
use Rattle.dv_model.specs.Journals.{new_guid}
use Rattle.dv_model.specs.Sessions.{cache_number, next_number}
use Rattle.dv_shelf.specs.declared.shelf.Name.{Name}
use Rattle.dv_shelf.specs.Folders.{Folder, Lists}
use Rattle.dv_dbox.specs.BoxTexts.{written}
use Rattle.dv_chain.specs.declared.chain.Chain.{Chain}
use Rattle.dv_lookups.specs.Checks.{IsCacheText}
use Rattle.dv_openings.specs.TrueCaches.{HasTrueCache}
use Rattle.dv_files.specs.Reading.{mail_at}
use Rattle.dv_files.specs.Writing.{IsFileOf}
use Rattle.dv_writing.specs.Removals.{AreUnlisted}
use Rattle.dv_writing.specs.declared.steps.Files.{Files}
use Rattle.dv_writing.specs.declared.steps.Files.TheVariants as files
use Rattle.dv_writing.specs.declared.steps.Renewal.{Renewal}

-- ---- an appended message

-- the GUID of the chain's next message
abbrev pub guid_for : Chain → ℕ → List ℕ
guid_for chain received =
    new_guid chain.indexid chain.live.mailbox.uid_validity chain.live.mailbox.next_uid received

-- its file is made and received now, with the GUID of that time
abbrev pub new_file : Chain → ℕ → List ℕ → List ℕ
new_file chain received message = written received (guid_for chain received) received message

-- the files are that one, which gives the message and that GUID
pub record IsAppended (chain : Chain) (received : ℕ) (message : List ℕ) (steps : Files) : Type 0
  where
    pub is : steps ≡ files.Message (new_file chain received message)
    pub file : IsFileOf message (guid_for chain received) (new_file chain received message)

-- the files of a command that is no CHECK
abbrev pub AreFewFiles : Chain → ℕ → Command → Files → Type 0
AreFewFiles chain received (command.Append flags keywords message) steps =
    IsAppended chain received message steps
AreFewFiles chain received c steps = steps ≡ files.Nothing

-- ---- a check

-- the UIDs that were given out of a folder's message files that no row has, rising
pub record AreGone (m : Mailbox) (folder : Folder) (uids : List ℕ) : Type 0 where
  pub names : List Name
  pub lists : Lists folder names
  pub are : AreUnlisted m names uids

-- the cache file of a chain's mailbox, by the message files of a folder, under its next sequence
abbrev pub IsNextCache : Chain → Folder → List ℕ → Type 0
IsNextCache chain folder text =
    IsCacheText chain.indexid (next_number (cache_number chain.live.mailbox)) (mail_at folder)
    chain.live.mailbox text

-- all message files that no row has go, and the cache file is of the rows' messages, where the
-- folder's was true of them
pub record IsCheckOf (chain : Chain) (folder : Folder) (steps : Files) : Type 0 where
  pub renewal : Renewal
  pub is : steps ≡ files.Check renewal
  pub gone : AreGone chain.live.mailbox folder renewal.gone
  pub cache : HasTrueCache folder chain.indexid chain.live.mailbox
      → IsNextCache chain folder renewal.cache

-- ---- any command

-- its files, as they are made of the chain, the time and the folder
abbrev pub AreFilesMade : Chain → ℕ → Folder → Command → Files → Type 0
AreFilesMade chain received folder command.Check steps = IsCheckOf chain folder steps
AreFilesMade chain received folder c steps = AreFewFiles chain received c steps
