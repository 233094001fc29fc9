-- What is read and made before a group.
use Rattle.std.specs.Prelude.{◌≡◌, ◌≤◌, ℕ, List, length, Option, IfSome, is_some, ⊤}
use Rattle.dv_model.specs.declared.types.Command.{Command}
use Rattle.dv_model.specs.declared.types.Command.TheVariants as command
use Rattle.dv_model.specs.declared.types.Mailbox.{Mailbox}
use Rattle.dv_shelf.specs.Folders.{Folder}
use Rattle.dv_shelf.specs.Sees.{SeesFolder}
use Rattle.dv_lookups.specs.Checks.{row_uids}
use Rattle.dv_lookups.specs.Commands.{SparesEach}
use Rattle.dv_chain.specs.declared.chain.Chain.{Chain}
use Rattle.dv_files.specs.Reading.{guid_rows}
use Rattle.dv_files.specs.declared.texts.Turn.{Turn}
use Rattle.dv_files.specs.Texts.{ClosesLog}
use Rattle.dv_writing.specs.Steps.{AreFilesFor}
use Rattle.dv_writing.specs.Ways.{IsDue, ready}
use Rattle.dv_plans.specs.declared.before.Before.{Before}
use Rattle.dv_plans.specs.declared.times.Times.{Times}
use Rattle.dv_plans.specs.Begins.{IsMadeAt}
use Rattle.dv_plans.specs.Counts.{CountsUpTo}
use Rattle.dv_plans.specs.Files.{AreFilesMade}
use Rattle.dv_plans.specs.Guids.{AreGuidsOf, removed_of}

-- a CHECK has at most 2^23 rows, so that its cache file can be written
abbrev pub HasFewRows : Command → Mailbox → Type 0
HasFewRows command.Check m = length m.rows ≤ 8388608
HasFewRows c m = ⊤

-- how many message files are read: at most those of the rows, or those of the messages that are
-- removed
abbrev pub reads_of : Command → Mailbox → List ℕ → ℕ
reads_of command.Check m uids = length m.rows
reads_of c m uids = length (removed_of c uids)

-- So many are read at most. A CHECK reads none of a row that the folder's cache file has, and any
-- other command as many as this says.
pub record ReadsFor {S : Type 0} (sees : SeesFolder S) (c : Command) (chain : Chain)
    (uids : List ℕ) (old new : S) (Counts : ℕ → ℕ → ℕ → Type 0) : Type 0 where
  pub most : CountsUpTo (reads_of c chain.live.mailbox uids) (sees.mail_reads old)
      (sees.mail_reads new)
  pub spares : sees.tells → c ≡ command.Check
      → SparesEach (sees.files old) chain.indexid chain.live.mailbox (row_uids chain.live.mailbox)
      (sees.mail_reads old) (sees.mail_reads new)
  pub other : (c ≡ command.Check → ⊥) → Counts (reads_of c chain.live.mailbox uids)
      (sees.mail_reads old) (sees.mail_reads new)

-- the GUIDs are of the messages that are removed, and the rotation and the files are the chain's
pub record IsBefore (c : Command) (uids : List ℕ) (owed : Option Turn) (chain : Chain)
    (times : Times) (before : Before) : Type 0 where
  pub guids : AreGuidsOf (removed_of c uids) before.guids
  pub turn : is_some before.turn ≡ is_some times.turn
  pub due : IsDue owed chain before.turn
  pub made : IsMadeAt chain times.turn before.turn
  pub files : AreFilesFor (ready owed before.turn chain) before.files

-- all of it is read of a folder
pub record IsRead (c : Command) (uids : List ℕ) (chain : Chain) (received : ℕ) (folder : Folder)
    (before : Before) : Type 0 where
  pub guids : before.guids ≡ guid_rows folder (removed_of c uids)
  pub closes : IfSome before.turn (λ turn. ClosesLog chain turn folder)
  pub files : AreFilesMade chain received folder c before.files
