-- What becomes of the calls of a shelf that stops.
use Rattle.std.specs.Prelude.{◌≡◌, ◌↔◌, ℕ, ◌+◌, ◌≤◌, List, length, nat_eq, cond, Option, Some, None, Result, OnOk, OnErr, IfOk, IsErrOf}
use Rattle.std.specs.declared.snapshot.Snapshot.{Snapshot}
use Rattle.dv_shelf.specs.declared.shelf.Failed.{Failed}
use Rattle.dv_shelf.specs.declared.shelf.Name.{Name}
use Rattle.dv_shelf.specs.declared.shelf.ShelfFault.{ShelfFault}
use Rattle.dv_shelf.specs.declared.shelf.ShelfFault.TheVariants as fault
use Rattle.dv_shelf.specs.Folders.{Folder, with_file, contents, patched, counted, ChangesOnly, TornFile, IsEither}
use Rattle.dv_shelf.specs.Crashes.{Follows, FollowsNone, Elapses}
use Rattle.dv_shelf.specs.Causes.{CountsOnce}
use Rattle.dv_shelf.specs.Sees.{SeesFolder}
use Rattle.dv_stopping.specs.declared.stopping.Stopping.{Stopping}
use Rattle.dv_stopping.specs.declared.stopping.Turn.{Turn}
use Rattle.dv_stopping.specs.declared.stopping.Turn.TheVariants.{Passes, Stops, Behind}
use Rattle.dv_stopping.specs.Stops.{leavings, leavings_since}

-- what becomes of the next call
abbrev pub turn_by : {S : Type 0} → Option (Snapshot S) → ℕ → Turn
turn_by None left = cond (nat_eq left 0) Stops Passes
turn_by (Some before) left = Behind

abbrev pub turn_of : {S : Type 0} → Stopping S → Turn
turn_of shelf = turn_by shelf.stop shelf.left

-- the inner shelf was this one before the call that stopped
abbrev pub IsMarked : {S : Type 0} → Option (Snapshot S) → S → Type 0
IsMarked None inner = ⊥
IsMarked (Some before) inner = before.value ≡ inner

-- What a call that puts a file at a name does to a shelf, by its answer.
pub record Puts {S : Type 0} (sees : SeesFolder S) (name : Name) (that : Option (List ℕ))
    (step : Option (List ℕ) → Option (List ℕ) → Type 0) (old new : S)
    (answer : Result (Unit {0}) Failed) : Type 0 where
  pub ok : sees.tells → OnOk answer (sees.files new ≡ with_file (sees.files old) name that)
  pub err : sees.tells → OnErr answer (ChangesOnly name step (sees.files old) (sees.files new))
  pub crash : sees.tells
      → Follows (ChangesOnly name step) (sees.may_leave old) (sees.may_leave new)
  pub time : sees.tells → Elapses (sees.moment old) (sees.moment new)
      (sees.left_since old) (sees.left_since new) (sees.may_leave new)
  pub reads : sees.mail_reads new ≡ sees.mail_reads old
  pub once : CountsOnce (sees.fault_count old) (sees.fault_count new) answer

-- it writes bytes over a file
abbrev pub WritesAt : {S : Type 0} → SeesFolder S → Name → ℕ → List ℕ → S → S
    → Result (Unit {0}) Failed → Type 0
WritesAt sees name at bytes old new answer =
    Puts sees name (Some (patched (contents (sees.files old) name) at bytes))
    (TornFile at (length bytes)) old new answer

-- it replaces or removes a file as a whole
pub record Replaces {S : Type 0} (sees : SeesFolder S) (name : Name) (that : Option (List ℕ))
    (old new : S) (answer : Result (Unit {0}) Failed) : Type 0 where
  pub puts : Puts sees name that (IsEither that) old new answer
  pub durable : sees.tells → OnOk answer ((c : Folder) → sees.may_leave new c → c name ≡ that)

-- a call that changes no file, and leaves a crash nothing more than before
pub record IsKept {S : Type 0} (sees : SeesFolder S) (old new : S) : Type 0 where
  pub files : sees.files new ≡ sees.files old
  pub crash : FollowsNone (sees.may_leave old) (sees.may_leave new)
  pub time : Elapses (sees.moment old) (sees.moment new)
      (sees.left_since old) (sees.left_since new) (sees.may_leave new)

-- it makes a file durable
pub record Syncs {S : Type 0} (sees : SeesFolder S) (name : Name) (old new : S)
    (answer : Result (Unit {0}) Failed) : Type 0 where
  pub durable : sees.tells
      → OnOk answer ((c : Folder) → sees.may_leave new c → c name ≡ sees.files new name)
  pub kept : sees.tells → IsKept sees old new
  pub reads : sees.mail_reads new ≡ sees.mail_reads old
  pub once : CountsOnce (sees.fault_count old) (sees.fault_count new) answer

-- it finds what the files have, and this is the count of reads of message files behind it
pub record Looks {S T : Type 0} (sees : SeesFolder S) (found : Folder → T → Type 0) (reads : ℕ → ℕ)
    (old new : S) (answer : Result T ShelfFault) : Type 0 where
  pub here : sees.tells → IfOk answer (found (sees.files old))
  pub kept : sees.tells → IsKept sees old new
  pub read : sees.mail_reads new ≡ reads (sees.mail_reads old)
  pub once : IsErrOf answer fault.Failed
      → sees.fault_count new ≡ counted (sees.fault_count old) 1

-- a call is passed on, and answers what the inner shelf does
pub record Passed {S R : Type 0} (does : S → S → R → Type 0) (old new : Stopping S) (result : R)
    : Type 0 where
  pub goes : old.stop ≡ None
  pub still : new.stop ≡ None
  pub left : old.left ≡ new.left + 1
  pub made : does old.inner new.inner result

-- A call is passed on, but fails whatever the inner shelf answers. From then on a crash may leave
-- just what it might have left of the inner shelf at some moment since before the call; and what it
-- might have left since an earlier moment is what it might have of the inner shelf.
pub record StopsIn {S R : Type 0} (sees : SeesFolder S) (does : S → S → R → Type 0)
    (fails : Type 0) (old new : Stopping S) : Type 0 where
  pub goes : old.stop ≡ None
  pub mark : IsMarked new.stop old.inner
  pub left : new.left ≡ old.left
  pub failed : fails
  pub answer : R
  pub made : does old.inner new.inner answer
  pub leaves : sees.tells → (c : Folder)
      → leavings sees new c ↔ sees.left_since new.inner (sees.moment old.inner) c
  pub since : sees.tells → (t : ℕ) (c : Folder) → t ≤ sees.moment old.inner
      → leavings_since sees new t c ↔ sees.left_since new.inner t c

-- a call behind the stop fails, and only the counts move
pub record IsBehind {S : Type 0} (fails : Type 0) (old new : Stopping S) : Type 0 where
  pub inner : new.inner ≡ old.inner
  pub stop : new.stop ≡ old.stop
  pub left : new.left ≡ old.left
  pub failed : fails

-- a call, by what becomes of it, by what it does to a shelf and by how it fails
abbrev pub Turned : {S R : Type 0} → Turn → SeesFolder S → (S → S → R → Type 0) → Type 0
    → Stopping S → Stopping S → R → Type 0
Turned Passes sees does fails old new result = Passed does old new result
Turned Stops sees does fails old new result = StopsIn sees does fails old new
Turned Behind sees does fails old new result = IsBehind fails old new

-- a call begins: whether it is passed on is settled
abbrev pub Begun : {S : Type 0} → Turn → Stopping S → Stopping S → Type 0
Begun Passes old new = (old.stop ≡ None) × ((new.stop ≡ None) × (old.left ≡ new.left + 1))
Begun Stops old new =
    (old.stop ≡ None) × (IsMarked new.stop old.inner × (new.left ≡ old.left))
Begun Behind old new = (new.stop ≡ old.stop) × (new.left ≡ old.left)
