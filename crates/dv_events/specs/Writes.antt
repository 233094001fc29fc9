-- Writes under the lock.
use Rattle.std.specs.Prelude.{◌≡◌, ℕ, Bool, true, false, List, [], ◌∷◌, Result, Ok, Err, ⊤}
use Rattle.dv_model.specs.declared.types.Command.{Command}
use Rattle.dv_model.specs.declared.types.Reply.{Reply}
use Rattle.dv_model.specs.Journals.{Log}
use Rattle.dv_model.specs.Sessions.{is_write}
use Rattle.dv_shelf.specs.Folders.{Folder}
use Rattle.dv_shelf.specs.Sees.{SeesFolder, SeesTime}
use Rattle.dv_schedules.specs.Calls.{Answer, Commit as CommitCall, Done, Ending, Failed, Refresh, Unwritten}
use Rattle.dv_plans.specs.declared.fault.StoreFault.{StoreFault}
use Rattle.dv_plans.specs.declared.fault.StoreFault.TheVariants as fault
use Rattle.dv_serving.specs.Servable.{IsServable}
use Rattle.dv_member.specs.Members.{Member}
use Rattle.dv_shared.specs.declared.written.Written.{Written}
use Rattle.dv_shared.specs.Kept.{notes_in}
use Rattle.dv_keeper.specs.declared.fault.SessionFault.{SessionFault}
use Rattle.dv_keeper.specs.declared.fault.SessionFault.TheVariants as session_fault
use Rattle.dv_keeper.specs.Commits.{Commit, HoldsBoth, IsCommitOf}
use Rattle.dv_keeper.specs.Turns.{HasAnswered, LeavesWriter}
use Rattle.dv_events.specs.Worlds.{CallsLead, history_of}

-- Of a commit that isn't answered by a mark nothing stands; or, where the disk failed it, its group
-- may be pending.
abbrev pub MayEnd : Ending → Result Written StoreFault → Type 0
MayEnd Unwritten came = ⊤
MayEnd Failed came = failed came
  where
    failed : Result Written StoreFault → Type 0
    failed (Err (fault.Disk faults)) = ⊤
    failed came = ⊥
MayEnd Done came = ⊥

module _ {S C : Type 0} where
  -- what a write's contract says of it, over a shelf that tells
  pub record IsWrite (sees : SeesFolder S) (times : SeesTime C) (start : Log) (honest : Type 0)
      (old new : Member) (c : Command) (k : Commit S C)
      (result : Result (Unit {0}) SessionFault) : Type 0 where
    pub told : honest
    pub fresh : old.spent ≡ false
    pub servable : IsServable c
    pub write : is_write c ≡ true
    pub commit : IsCommitOf sees times start honest old c k
    pub leaves : LeavesWriter (notes_in k.before) (notes_in k.behind) k.came old new result

  module _ (sees : SeesFolder S) (times : SeesTime C) (start : Log) (moment : ℕ)
      (past : ℕ → Folder → Type 0) (honest : Type 0) where
    -- an answered write: its group is published, or is empty; then its session loads it and is told
    abbrev pub WriteTells : ℕ → Type 0
    WriteTells count = (old new : Member) (c : Command) (k : Commit S C) (w : Written)
        (lines : List Reply) (healed : Bool)
        → HoldsBoth sees times start moment past honest k
        → IsWrite sees times start honest old new c k (Ok tt)
        → k.came ≡ Ok w → HasAnswered start count c lines old new
        → (received : ℕ) × CallsLead start
        (CommitCall old.number c received healed Done ∷ Refresh old.number
        ∷ Answer old.number c ∷ [])
        (history_of k.before) (history_of k.behind) old new ((c, lines) ∷ [])

    -- a limit or the disk's failure is the answer: the session loads what is published
    abbrev pub RefusedWriteLoads : Type 0
    RefusedWriteLoads = (old new : Member) (c : Command) (k : Commit S C) (e : StoreFault)
        (received : ℕ) (healed : Bool) (ending : Ending)
        → HoldsBoth sees times start moment past honest k
        → IsWrite sees times start honest old new c k (Ok tt)
        → k.came ≡ Err e → MayEnd ending (Err e)
        → CallsLead start
        (CommitCall old.number c received healed ending ∷ Refresh old.number ∷ [])
        (history_of k.before) (history_of k.behind) old new []

    -- memory ran out, and nothing was written
    abbrev pub UntoldWriteStays : Type 0
    UntoldWriteStays = (old new : Member) (c : Command) (k : Commit S C) (received : ℕ)
        (healed : Bool) (ending : Ending)
        → HoldsBoth sees times start moment past honest k
        → IsWrite sees times start honest old new c k (Err session_fault.NoMemory)
        → MayEnd ending k.came
        → CallsLead start (CommitCall old.number c received healed ending ∷ [])
        (history_of k.before) (history_of k.behind) old new []

    -- memory ran out behind the session's entry, which it has loaded
    abbrev pub SpentWriteStands : Type 0
    SpentWriteStands = (old new : Member) (c : Command) (k : Commit S C) (w : Written)
        (healed : Bool)
        → HoldsBoth sees times start moment past honest k
        → IsWrite sees times start honest old new c k (Err (session_fault.NoMemoryAfter w))
        → (received : ℕ) × CallsLead start
        (CommitCall old.number c received healed Done ∷ Refresh old.number ∷ [])
        (history_of k.before) (history_of k.behind) old new []
