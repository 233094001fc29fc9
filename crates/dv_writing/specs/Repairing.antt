-- What a repair does: to the chain and the turn, to the files, and to what a crash leaves. The
-- records take what a shelf shows.
use Rattle.std.specs.Prelude.{◌≡◌, ℕ, ◌<◌, Option, Some, None, IfSome, Result, OnOk, OnErr}
use Rattle.dv_model.specs.Journals.{Log}
use Rattle.dv_shelf.specs.declared.shelf.Name.TheVariants as name
use Rattle.dv_shelf.specs.Crashes.{LeavesOnly}
use Rattle.dv_shelf.specs.Folders.{Folder, contents}
use Rattle.dv_logfile.specs.declared.commit.Debt.TheVariants as debt
use Rattle.dv_logfile.specs.declared.commit.LogFile.{LogFile}
use Rattle.dv_logfile.specs.Commits.{ShutsGate}
use Rattle.dv_chain.specs.declared.chain.Chain.{Chain}
use Rattle.dv_chain.specs.Openings.{HasBounds}
use Rattle.dv_writing.specs.Commits.{HealsChain, KeepsOthers}
use Rattle.dv_files.specs.declared.texts.Turn.{Turn}
use Rattle.dv_files.specs.Leavings.{Puts}
use Rattle.dv_files.specs.Texts.{Advances, ClosesLog, IsTurnOf, closed_at}
use Rattle.dv_writing.specs.Debts.{Debt, MayGive, Nothing, Stands}
use Rattle.dv_shelf.specs.Sees.{SeesFolder}

-- ---- what is owed

-- the turn is of the chain's mailbox and place, a file may follow, and nothing is owed in the log
pub record IsOwedTurn (chain : Chain) (turn : Turn) : Type 0 where
  pub is : IsTurnOf chain turn
  pub room : chain.log.file_seq < 4294967295
  pub debt : chain.log.debt ≡ debt.None

-- the chain has its bounds, and a turn that is owed is of it
pub record IsOwing (chain : Chain) (turn : Option Turn) : Type 0 where
  pub bounds : HasBounds chain
  pub owed : IfSome turn (IsOwedTurn chain)

-- ---- the chain

-- where a turn was owed, behind Ok on the next file; else with the debt of its log paid
abbrev pub RepairsChain : Option Turn → Chain → Chain → {T E : Type 0} → Result T E → Type 0
RepairsChain None old new result = HealsChain old new result
RepairsChain (Some turn) old new result = Advances old new result

-- Behind Ok nothing is owed any more. An error leaves all as it was.
pub record Repairs (owed left : Option Turn) (old new : Chain) {T E : Type 0} (result : Result T E)
    : Type 0 where
  pub chain : RepairsChain owed old new result
  pub live : new.live ≡ old.live
  pub paid : OnOk result ((new.log.debt ≡ debt.None) × (left ≡ None))
  pub failed : OnErr result ((new ≡ old) × (left ≡ owed))
  pub owing : IsOwing new left

-- ---- the files

-- A zero byte stands at the log's end where that was owed. The other files are as they were, and
-- behind Ok so is what a rotation keeps of the log, its bytes up to that end.
pub record HealsLog (log : LogFile) {T E : Type 0} (result : Result T E) (old new : Folder)
    : Type 0 where
  pub bytes : ShutsGate log result old new
  pub others : KeepsOthers old new
  pub front : OnOk result
      (closed_at log.end (contents new name.Log) ≡ closed_at log.end (contents old name.Log))

-- so it is where no turn was owed; else the log is replaced by the turn's new one
abbrev pub RepairsFiles : Option Turn → LogFile → {T E : Type 0} → Result T E → Folder → Folder
    → Type 0
RepairsFiles None log result old new = HealsLog log result old new
RepairsFiles (Some turn) log result old new = Puts name.Log turn.new result old new

-- a turn that was made before a heal is one of the chain behind it, and keeps what the log has then
pub record KeepsTurn (turn : Turn) (chain new_chain : Chain) {T E : Type 0} (result : Result T E)
    (old new : Folder) : Type 0 where
  pub is : IsTurnOf chain turn → IsTurnOf new_chain turn
  pub closes : ClosesLog chain turn old → OnOk result (ClosesLog new_chain turn new)

-- ---- what a crash leaves

-- A repair goes from rest to rest: behind Ok nothing is owed, behind an error the same as before. A
-- crash at any moment leaves a folder that gives the mailbox, or that with what is owed.
pub record RepairsQuietly {S : Type 0} (sees : SeesFolder S) (log : Log) (due : Debt) (chain new_chain : Chain)
    {T E : Type 0} (result : Result T E) (old new : S) : Type 0 where
  pub since : LeavesOnly sees old new (MayGive log due chain)
  pub ok : OnOk result (Stands sees log Nothing new_chain new)
  pub err : OnErr result (Stands sees log due new_chain new)
