-- The pending entry of a world is that of the store's debt.
use Rattle.std.specs.Prelude.{◌≡◌, ℕ, Bool, List, [], ◌∷◌, All, Option, Some, None, Result, Ok, Err, ⊤}
use Rattle.dv_model.specs.declared.types.Command.{Command}
use Rattle.dv_model.specs.declared.types.Reply.{Reply}
use Rattle.dv_model.specs.Journals.{Log}
use Rattle.dv_interleavings.specs.Worlds.{World, Pending, only_log}
use Rattle.dv_schedules.specs.Calls.{Answer, Call, Commit as CommitCall, Done, Ending, Gather, Make, Refresh, Unwritten, all_called}
use Rattle.dv_shelf.specs.Folders.{Folder}
use Rattle.dv_shelf.specs.Sees.{SeesFolder, SeesTime}
use Rattle.dv_front.specs.declared.notes.Note.{Note}
use Rattle.dv_plans.specs.declared.fault.StoreFault.{StoreFault}
use Rattle.dv_tries.specs.Tries.{Try}
use Rattle.dv_member.specs.Members.{Member}
use Rattle.dv_shared.specs.declared.written.Written.{Written}
use Rattle.dv_shared.specs.Holding.{Holds}
use Rattle.dv_shared.specs.Kept.{Kept, notes_in}
use Rattle.dv_shared.specs.Owing.{Owes, OwesSome}
use Rattle.dv_keeper.specs.declared.fault.SessionFault.{SessionFault}
use Rattle.dv_keeper.specs.declared.fault.SessionFault.TheVariants as session_fault
use Rattle.dv_keeper.specs.Commits.{Commit, HoldsBoth}
use Rattle.dv_events.specs.Worlds.{AreOthers, Conversation, History, IsAtWorld, IsOfTry, history_of}
use Rattle.dv_events.specs.Writes.{IsWrite, MayEnd}

-- ---- in a world

-- where the store owes the group of a try, that is the pending entry; else there is none
abbrev pub IsPendingOf : Log → List Note → Option Try → Option Pending → Type 0
IsPendingOf start notes (Some t) (Some p) = IsOfTry start notes p t
IsPendingOf start notes (Some t) None = ⊥
IsPendingOf start notes None (Some p) = ⊥
IsPendingOf start notes None None = ⊤

-- From each world that the keeper is at, whose pending entry is that of the one debt, the events of
-- these calls lead to a world whose pending entry is that of the other.
abbrev pub DebtsLead : Log → List Call → History → Option Try → List Note → Option Try → Member
    → Type 0
DebtsLead start calls before owed notes left s =
    (w : World) (answers : List (Command × List Reply)) (rest : List Conversation)
    → AreOthers s rest
    → IsAtWorld start before (record { session = s; answers = answers } ∷ rest) w
    → IsPendingOf start before.notes owed w.pending
    → IsPendingOf start notes left (all_called w calls).pending

-- ---- loads and answers

-- a call that loads or answers
abbrev pub IsReading : Call → Type 0
IsReading (Refresh s) = ⊤
IsReading (Gather s t) = ⊤
IsReading (Answer s c) = ⊤
IsReading (Make n) = ⊥
IsReading (CommitCall s c received healed ending) = ⊥

-- such calls leave what is pending
abbrev pub ReadingsKeepDebt : Type 0
ReadingsKeepDebt = (start : Log) (notes : List Note) (owed : Option Try) (w : World)
    (calls : List Call)
    → All IsReading calls → IsPendingOf start notes owed w.pending
    → IsPendingOf start notes owed (all_called w calls).pending

-- nothing is pending at the beginning, where nothing is owed
abbrev pub NothingPends : Type 0
NothingPends = (start : Log) (n : ℕ)
    → IsPendingOf start [] None (all_called (only_log start) (Make n ∷ [])).pending

-- ---- a write

-- One that was taken is done; but an empty one isn't, of which the session is told nothing. Another
-- ends as it may.
abbrev pub EndsWith : Ending → Result Written StoreFault → Result (Unit {0}) SessionFault → Type 0
EndsWith ending (Ok w) (Err session_fault.NoMemory) = ending ≡ Unwritten
EndsWith ending (Ok w) result = ending ≡ Done
EndsWith ending (Err e) result = MayEnd ending (Err e)

module _ {S C : Type 0} where
  -- whatever is kept under the lock, the store owes the group of one of its tries, or of none
  abbrev pub KeptOwes : SeesFolder S → SeesTime C → Log → ℕ → (ℕ → Folder → Type 0) → Type 0
      → Type 0
  KeptOwes sees times start moment past honest =
      (k : Kept S C) → honest → Holds sees times.tells start moment past honest k
      → OwesSome sees times.tells start k

  -- Whatever the store owed before a write, it owes something behind it, and the pending entry goes
  -- from the one to the other by the events of its commit: by one ending of it, and where an earlier
  -- failed write was taken away first or not. So it is behind loads and answers that follow.
  abbrev pub WriteMovesDebt : SeesFolder S → SeesTime C → Log → ℕ → (ℕ → Folder → Type 0)
      → Type 0 → Type 0
  WriteMovesDebt sees times start moment past honest =
      (old new : Member) (c : Command) (k : Commit S C) (result : Result (Unit {0}) SessionFault)
      (owed : Option Try)
      → HoldsBoth sees times start moment past honest k
      → IsWrite sees times start honest old new c k result
      → Owes sees times.tells start (notes_in k.before) owed k.before.store
      → (left : Option Try)
      × Owes sees times.tells start (notes_in k.behind) left k.behind.store
      × (healed : Bool) × (ending : Ending) × EndsWith ending k.came result
      × ((received : ℕ) (calls : List Call) → All IsReading calls
      → DebtsLead start (CommitCall old.number c received healed ending ∷ calls)
      (history_of k.before) owed (notes_in k.behind) left old)
