-- What holds of notes, tries and what a crash leaves. The laws take what a shelf shows.
use Rattle.std.specs.Prelude.{◌≡◌, ◌⊎◌, ◌≤◌, ℕ, List, ◌++◌, length, Result, Ok, Err}
use Rattle.dv_model.specs.declared.types.Command.{Command}
use Rattle.dv_model.specs.Journals.{IsU32, Log}
use Rattle.dv_model.specs.Views.{View}
use Rattle.dv_shelf.specs.Crashes.{LeavesOnly}
use Rattle.dv_shelf.specs.Folders.{Folder}
use Rattle.dv_shelf.specs.Sees.{SeesFolder}
use Rattle.dv_front.specs.declared.notes.Note.{Note}
use Rattle.dv_notes.specs.Logs.{AreNotesOf, log_of}
use Rattle.dv_plans.specs.declared.fault.StoreFault.{StoreFault}
use Rattle.dv_store.specs.declared.receipt.Receipt.{Receipt}
use Rattle.dv_store.specs.Commits.{Commits}
use Rattle.dv_store.specs.States.{State}
use Rattle.dv_tries.specs.Commits.{CommitsTold, LeavesBehind, MayCommit, notes_behind, tries_behind, try_of}
use Rattle.dv_tries.specs.Durable.{IsDurable}
use Rattle.dv_tries.specs.Images.{LeavesSince}
use Rattle.dv_tries.specs.Standing.{RestsBehind, StandsBehind}
use Rattle.dv_tries.specs.Tries.{GivesLast, MayGive, Try}

-- ---- what a folder gives

-- what may be given behind some notes and tries may be given behind more
abbrev pub MoreMayGive : Type 0 → Type 0
MoreMayGive tells = (start : Log) (notes more : List Note) (tries later : List Try) (c : Folder)
    → MayGive tells start notes tries c → MayGive tells start (notes ++ more) (tries ++ later) c

-- so may what is given at their end
abbrev pub LastMayGive : Type 0 → Type 0
LastMayGive tells = (start : Log) (notes : List Note) (tries : List Try) (c : Folder)
    → GivesLast tells start notes tries c → MayGive tells start notes tries c

-- what is given at the end of good notes has each of them, with its message and GUID, and the
-- messages of the start
abbrev pub LastIsDurable : Type 0 → Type 0
LastIsDurable tells = (start : Log) (notes : List Note) (tries : List Try) (c : Folder)
    → AreNotesOf start notes → GivesLast tells start notes tries c → IsDurable start notes c

-- ---- a store

-- what a crash now may leave of a store behind notes gives their end
abbrev pub RestGivesLast : {S : Type 0} → (C : Type 0) → SeesFolder S → Type 0 → Type 0
RestGivesLast {S} C sees tells = (start : Log) (notes : List Note) (tries : List Try)
    (store : State S C) (c : Folder)
    → StandsBehind start notes store → RestsBehind sees tells start notes tries store
    → sees.may_leave store.shelf c → GivesLast tells start notes tries c

-- over any shelf a store stands behind the notes with that of its commit
abbrev pub CommitsStand : Type 0 → Type 0 → Type 0
CommitsStand S C = (start : Log) (notes : List Note) (author : ℕ) (c : Command) (view : View)
    (old new : State S C) (receipt : Receipt)
    → StandsBehind start notes old → IsU32 author
    → Commits c view old new (Ok receipt) → IsU32 receipt.mark.offset
    → StandsBehind start (notes_behind start notes author c old (Ok receipt)) new

-- and where it isn't Ok behind the notes as they were
abbrev pub ErrorsStand : Type 0 → Type 0 → Type 0
ErrorsStand S C = (start : Log) (notes : List Note) (c : Command) (view : View)
    (old new : State S C) (e : StoreFault)
    → StandsBehind start notes old → Commits c view old new (Err e) → StandsBehind start notes new

-- A commit keeps it: the store rests behind the notes with its own, or with its try where the disk
-- failed it, and a crash at any moment leaves what was given before or what is behind.
abbrev pub CommitsKeep : {S : Type 0} → (C : Type 0) → SeesFolder S → Type 0 → Type 0
CommitsKeep {S} C sees tells = (start : Log) (notes : List Note) (tries : List Try) (author : ℕ)
    (c : Command) (view : View) (upcoming : ℕ → ℕ) (old new : State S C)
    (result : Result Receipt StoreFault)
    → StandsBehind start notes old → RestsBehind sees tells start notes tries old
    → MayCommit author c view → CommitsTold sees tells c view upcoming old new result
    → StandsBehind start (notes_behind start notes author c old result) new
    → LeavesBehind sees tells start notes (notes_behind start notes author c old result)
    tries (tries_behind tries (try_of (length notes) author c view old upcoming) result) old new

-- ---- images

-- images since a run began are of fronts of the notes or of tries, behind a commit too
abbrev pub ImagesGoOn : {S : Type 0} → SeesFolder S → Type 0 → (ℕ → Folder → Type 0) → Type 0
ImagesGoOn {S} sees tells past = (start : Log) (notes more : List Note) (tries later : List Try)
    (moment : ℕ) (old new : S)
    → LeavesSince sees moment past old (MayGive tells start notes tries)
    → LeavesOnly sees old new (λ c. GivesLast tells start notes tries c
    ⊎ GivesLast tells start (notes ++ more) (tries ++ later) c)
    → LeavesSince sees moment past new (MayGive tells start (notes ++ more) (tries ++ later))
