-- What a rotation does: to the chain and the turn that is kept, to the files, and to what a crash
-- leaves. The records take what a shelf shows.
use Rattle.std.specs.Prelude.{◌≡◌, ℕ, Option, Some, None, IfSome, Result, Ok, Err, OnOk}
use Rattle.dv_model.specs.Journals.{Log}
use Rattle.dv_shelf.specs.declared.shelf.Name.TheVariants as name
use Rattle.dv_shelf.specs.Crashes.{LeavesOnly}
use Rattle.dv_shelf.specs.Folders.{Folder}
use Rattle.dv_logfile.specs.declared.commit.Debt.TheVariants as debt
use Rattle.dv_chain.specs.declared.chain.Chain.{Chain}
use Rattle.dv_files.specs.declared.texts.Turn.{Turn}
use Rattle.dv_files.specs.Leavings.{IsBeforeLast, IsPut, with_new, with_old}
use Rattle.dv_files.specs.Texts.{Advances}
use Rattle.dv_writing.specs.Debts.{Last, MayGive, Stands, debt_of}
use Rattle.dv_writing.specs.Repairing.{IsOwing}
use Rattle.dv_shelf.specs.Sees.{SeesFolder}

-- Behind Ok the chain stands on the next file, and no turn is kept; an error leaves the chain as it
-- was. The turn that is kept is this one, and is owed.
pub record TurnsOver (turn : Turn) (left : Option Turn) (old new : Chain) {T E : Type 0}
    (result : Result T E) : Type 0 where
  pub chain : Advances old new result
  pub paid : OnOk result (left ≡ None)
  pub kept : IfSome left (λ t. t ≡ turn)
  pub owing : IsOwing old None → old.log.debt ≡ debt.None → IsOwing new left

-- Behind Ok all three replaces were made. An error keeps the turn behind the first two, and then
-- the log is the old or the new one; or it comes before the last, and the log is as it was.
abbrev pub TurnsFiles : Turn → Option Turn → {T E : Type 0} → Result T E → Folder → Folder → Type 0
TurnsFiles turn left (Ok x) old new = new ≡ with_new turn old
TurnsFiles turn None (Err e) old new = IsBeforeLast turn old new
TurnsFiles turn (Some kept) (Err e) old new = IsPut name.Log turn.new (with_old turn old) new

-- A rotation goes from rest to rest, and owes what the kept turn says. A crash at any moment leaves
-- a folder that gives the mailbox, at its place or at the first place of the new file.
pub record TurnsOverQuietly {S : Type 0} (sees : SeesFolder S) (log : Log) (turn : Turn) (left : Option Turn)
    (chain new_chain : Chain) (old new : S) : Type 0 where
  pub since : LeavesOnly sees old new (MayGive log (Last turn.new) chain)
  pub stands : Stands sees log (debt_of left) new_chain new
