-- Which of the writes that the disk failed the store owes: the one whose group a crash may leave
-- behind the log. The records take what a shelf shows.
use Rattle.std.specs.Prelude.{◌≡◌, ◌⊎◌, ℕ, ◌+◌, List, [], ◌∷◌, length, Contains, Option, Some, None, IfSome, Result, Ok, Err, ⊤}
use Rattle.dv_model.specs.declared.types.Mark.{Mark}
use Rattle.dv_model.specs.Journals.{Log}
use Rattle.dv_shelf.specs.Folders.{Folder}
use Rattle.dv_shelf.specs.Sees.{SeesFolder}
use Rattle.dv_files.specs.Texts.{place_of}
use Rattle.dv_front.specs.declared.notes.Note.{Note}
use Rattle.dv_notes.specs.Logs.{log_of}
use Rattle.dv_plans.specs.declared.fault.StoreFault.{StoreFault}
use Rattle.dv_plans.specs.declared.fault.StoreFault.TheVariants as fault
use Rattle.dv_serving.specs.Places.{begin_at}
use Rattle.dv_store.specs.Rest.{IsAtRest}
use Rattle.dv_store.specs.States.{State}
use Rattle.dv_tries.specs.Standing.{IsPendingBy}
use Rattle.dv_tries.specs.Tries.{GivesLast, Try, end_mark}
use Rattle.dv_writing.specs.Debts.{Debt, Last, Nothing, Pending}
use Rattle.dv_shared.specs.declared.written.Written.{Written}
use Rattle.dv_shared.specs.Kept.{Kept, notes_in}

-- ---- what is owed

-- The debt is the group of this try, which met all notes, and begins at this place; or there is no
-- group in it.
abbrev pub IsDebtOf : Type 0 → Log → List Note → Mark → Option Try → Debt → Type 0
IsDebtOf tells start notes place (Some t) (Pending text after written) =
    (t.place ≡ length notes)
    × (place ≡ begin_at (end_mark (log_of start notes)))
    × IsPendingBy tells (log_of start notes) t text after written
IsDebtOf tells start notes place (Some t) Nothing = ⊥
IsDebtOf tells start notes place (Some t) (Last new) = ⊥
IsDebtOf tells start notes place None Nothing = ⊤
IsDebtOf tells start notes place None (Last new) = ⊤
IsDebtOf tells start notes place None (Pending text after written) = ⊥

-- the one try, or none
abbrev pub only : Option Try → List Try
only None = []
only (Some t) = t ∷ []

-- ---- behind a commit

-- With the notes before and now: an entry more leaves no group owed. Where the disk failed this
-- try, it is the one that is owed; or its group isn't there, and what was owed before was taken
-- away, or still is. Else nothing was written, and what was owed still is.
abbrev pub OwesBehind : List Note → List Note → Try → Option Try → Option Try
    → Result Written StoreFault → Type 0
OwesBehind notes now t owed left (Ok w) =
    ((now ≡ notes) × (left ≡ owed)) ⊎ ((length now ≡ length notes + 1) × (left ≡ None))
OwesBehind notes now t owed left (Err (fault.Disk faults)) =
    (left ≡ owed) ⊎ (left ≡ None) ⊎ (left ≡ Some t)
OwesBehind notes now t owed left (Err e) = left ≡ owed

-- ---- a store

module _ {S C : Type 0} where
  -- The store is at rest with the log of the notes, and owes the group of this try, or no group. So
  -- a crash now leaves that log, or it with that very group, and no other.
  pub record Owes (sees : SeesFolder S) (tells : Type 0) (start : Log) (notes : List Note)
      (owed : Option Try) (store : State S C) : Type 0 where
    pub debt : Debt
    pub is : IsDebtOf tells start notes (place_of store.chain) owed debt
    pub rests : IsAtRest sees (log_of start notes) debt store
    pub gives : (c : Folder) → sees.may_leave store.shelf c
        → GivesLast tells start notes (only owed) c

  -- Whatever the store owed before a commit of this try, it owes this behind it.
  abbrev pub MovesDebt : SeesFolder S → Type 0 → Log → Try → Kept S C → Kept S C
      → Result Written StoreFault → Type 0
  MovesDebt sees tells start t old new result =
      (owed : Option Try) → Owes sees tells start (notes_in old) owed old.store
      → (left : Option Try) × Owes sees tells start (notes_in new) left new.store
      × OwesBehind (notes_in old) (notes_in new) t owed left result

  -- it owes one of the writes that were tried, or none
  abbrev pub OwesSome : SeesFolder S → Type 0 → Log → Kept S C → Type 0
  OwesSome sees tells start k =
      (owed : Option Try) × Owes sees tells start (notes_in k) owed k.store
      × IfSome owed (Contains k.tries)
