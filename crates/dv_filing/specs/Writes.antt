-- A write as a whole: what is owed and due, the files before its group, and the group. The records
-- take what a shelf shows.
use Rattle.std.specs.Prelude.{◌≡◌, ◌⊎◌, ℕ, List, Option, Some, None, IfSome, Result, IfOk, OnErr, OnOk}
use Rattle.dv_model.specs.declared.types.Mailbox.{Mailbox}
use Rattle.dv_shelf.specs.declared.shelf.Name.{Name}
use Rattle.dv_shelf.specs.Crashes.{LeavesOnly}
use Rattle.dv_shelf.specs.Folders.{Folder}
use Rattle.dv_shelf.specs.Sees.{SeesFolder}
use Rattle.dv_logfile.specs.declared.commit.Debt.TheVariants as log_debt
use Rattle.dv_chain.specs.declared.chain.Chain.{Chain}
use Rattle.dv_chain.specs.Rest.{IsPending, Nothing, Owed, Pending}
use Rattle.dv_files.specs.declared.texts.Turn.{Turn}
use Rattle.dv_files.specs.Texts.{ClosesLog, place_of}
use Rattle.dv_writing.specs.declared.committing.Committed.{Committed}
use Rattle.dv_writing.specs.Commits.{IsReady}
use Rattle.dv_writing.specs.Opening.{mark_behind}
use Rattle.dv_writing.specs.Repairing.{IsOwing}
use Rattle.dv_writing.specs.Ways.{Held, IsDue, IsOfLog, StopsOnWay, ready}
use Rattle.dv_filing.specs.declared.steps.Files.{Files}
use Rattle.dv_filing.specs.declared.steps.Steps.{Steps}
use Rattle.dv_filing.specs.Files.{HasRoom, HasWritten, IsNamed, IsWriting, IsWritten}
use Rattle.dv_filing.specs.Standing.{Fits, Gives, Stands}
use Rattle.dv_filing.specs.Ways.{IsOwedOnWay, MayGiveOn}
use Rattle.dv_maps.specs.Texts.{KeepsTexts, Messages}

-- ---- before it is carried out

-- the steps are made for the chain, which is ready for them behind what is owed and due
pub record AreSteps (owed : Option Turn) (chain : Chain) (text : List ℕ) (steps : Steps)
    : Type 0 where
  pub due : IsDue owed chain steps.turn
  pub room : HasRoom steps.files
  pub group : IsReady text steps.prepared (ready owed steps.turn chain)

-- what is kept of a map's texts stays while the files are written, and behind that the texts of the
-- map with the group are kept, with the messages that are known then
pub record KeepsThrough (messages next : Messages) (m after : Mailbox) (steps : Files)
    : Type 0 where
  pub stays : (d c : Folder) → IsWriting steps d c → KeepsTexts messages m d
      → KeepsTexts messages m c
  pub goes : (read d c : Folder) → IsWritten steps read d c → KeepsTexts messages m read
      → KeepsTexts messages m d → KeepsTexts next after c
  pub same : (c : Folder) → KeepsTexts messages m c → KeepsTexts next m c

-- the text is that of a group which makes this map
pub record IsWriteOf (messages next : Messages) (after : Mailbox) (owed : Option Turn)
    (chain : Chain) (folder : Folder) (text : List ℕ) (steps : Steps) : Type 0 where
  pub pending : IsPending text after (ready owed steps.turn chain)
  pub closes : IfSome steps.turn (λ turn. ClosesLog chain turn folder)
  pub keeps : KeepsThrough messages next chain.live.mailbox after steps.files

-- ---- the chain

-- Behind Ok the map has the group, the mark is the place behind it, and nothing is owed. An error
-- keeps the map, and stops on the way, or leaves the chain where the group begins; then no turn is
-- owed.
pub record CarriesOut (owed left : Option Turn) (text : List ℕ) (steps : Steps) (old new : Chain)
    {E : Type 0} (result : Result Committed E) : Type 0 where
  pub mailbox : (after : Mailbox) → IsPending text after (ready owed steps.turn old)
      → OnOk result (new.live.mailbox ≡ after)
  pub mark : IfOk result (λ done. (done.mark ≡ mark_behind text (ready owed steps.turn old))
      × (done.mark ≡ place_of new))
  pub paid : OnOk result ((new.log.debt ≡ log_debt.None) × (left ≡ None))
  pub failed : OnErr result (new.live ≡ old.live)
  pub place : OnErr result (StopsOnWay owed left steps.turn old new
      ⊎ ((place_of new ≡ place_of (ready owed steps.turn old)) × (left ≡ None)))
  pub indexid : new.indexid ≡ old.indexid
  pub owing : IsOwing new left

-- ---- the folder

-- what is owed behind an error: what is left on the way; or the group's gate may be open
abbrev pub IsLeftOwed : Owed → List ℕ → Mailbox → Mailbox → Owed → Type 0
IsLeftOwed owed text m after now = IsOwedOnWay owed m now ⊎ (now ≡ Pending text after)

-- So the storage stands: with the messages from before, where what is owed was left on the way; or,
-- where the group's gate may be open, with those that are known then.
abbrev pub StandsLeft : {S : Type 0} → SeesFolder S → Messages → Messages → Owed → List ℕ → Mailbox
    → Mailbox → Owed → Held S → Type 0
StandsLeft sees messages next owed text m after now held =
    (IsOwedOnWay owed m now × Stands sees messages now held.chain held.shelf)
    ⊎ ((now ≡ Pending text after) × Stands sees next now held.chain held.shelf)

-- what a crash leaves gives the map from before, or that with what was owed, or that with the group
abbrev pub MayGiveWrite : Messages → Messages → Owed → Mailbox → Option Turn → List ℕ → Steps
    → Chain → Folder → Type 0
MayGiveWrite messages next owed after turn text steps chain c =
    MayGiveOn messages owed steps.turn chain c
    ⊎ Gives next chain.indexid after (mark_behind text (ready turn steps.turn chain)) c

-- the files that no step names, and that are none of the log or of a rotation that was due, are as
-- before
abbrev pub KeepsUnnamed : Steps → Folder → Folder → Type 0
KeepsUnnamed steps old new = (n : Name) → (IsNamed steps.files n → ⊥)
    → (IsOfLog steps.turn n → ⊥) → new n ≡ old n

-- From rest to rest: behind Ok with the group, and nothing is owed; behind an error as before, with
-- what is left. A crash at any moment leaves the map from before or with the group, whole.
-- Behind Ok the steps' file is written; files that no step names stay.
pub record WritesStorage {S : Type 0} (sees : SeesFolder S) (messages next : Messages)
    (owed : Owed) (after : Mailbox) (text : List ℕ) (steps : Steps) (old new : Held S)
    {T E : Type 0} (result : Result T E) : Type 0 where
  pub ok : OnOk result (Stands sees next Nothing new.chain new.shelf)
  pub err : OnErr result ((now : Owed)
      × Fits new.owed new.chain.live.mailbox now
      × StandsLeft sees messages next owed text old.chain.live.mailbox after now new)
  pub any_moment : LeavesOnly sees old.shelf new.shelf
      (MayGiveWrite messages next owed after old.owed text steps old.chain)
  pub written : OnOk result
      (HasWritten steps.files (sees.files old.shelf) (sees.files new.shelf))
  pub others : KeepsUnnamed steps (sees.files old.shelf) (sees.files new.shelf)
