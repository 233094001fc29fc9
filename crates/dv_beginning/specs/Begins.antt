-- A store from which a run begins. The records take what a shelf and a clock show.
use Rattle.std.specs.Prelude.{◌≡◌, ◌≢◌, ℕ, None, [], Result, Ok, Err}
use Rattle.dv_model.specs.declared.types.OpenFault.{OpenFault}
use Rattle.dv_model.specs.Journals.{IsSound, Log}
use Rattle.dv_shelf.specs.declared.shelf.Name.{Name}
use Rattle.dv_shelf.specs.declared.shelf.Name.TheVariants as name
use Rattle.dv_shelf.specs.Clocks.{behind}
use Rattle.dv_shelf.specs.Crashes.{IsSettled, LeavesOnly}
use Rattle.dv_writing.specs.Debts.{Nothing}
use Rattle.dv_files.specs.Texts.{place_of}
use Rattle.dv_store.specs.Rest.{IsAtRest}
use Rattle.dv_store.specs.States.{State}
use Rattle.dv_beginning.specs.Leaving.{LeavesUnopened, MayLeave}
use Rattle.dv_beginning.specs.Starts.{Starts, log_from}
use Rattle.dv_shelf.specs.Sees.{SeesFolder, SeesTime}

module _ {S C : Type 0} where
  -- the log that a store starts from which was opened or made just now: its mailbox and place, with
  -- the messages of the folder's files
  abbrev pub start_of : SeesFolder S → State S C → Log
  start_of sees store = log_from store.chain.indexid store.chain.live.mailbox store.mark
      (sees.files store.shelf)

  -- It is at rest with the log that the folder starts from, at its place, and owes nothing. The
  -- files but the log are as they were, and settled; and what a crash has left meanwhile.
  pub record IsBegun (sees : SeesFolder S) (ticks : SeesTime C) (clock : ℕ → ℕ) (old : S)
      (store : State S C) : Type 0 where
    pub start : Log
    pub used : ℕ
    pub starts : Starts clock (sees.files old) start used
    pub sound : IsSound start
    pub rests : IsAtRest sees start Nothing store
    pub mailbox : start.start ≡ store.chain.live.mailbox
    pub place : start.start_mark ≡ place_of store.chain
    pub mark : store.mark ≡ place_of store.chain
    pub owed : store.owed ≡ None
    pub readings : ticks.tells → ticks.upcoming store.clock ≡ behind clock used
    pub others : (n : Name) → n ≢ name.Log → sees.files store.shelf n ≡ sees.files old n
    pub since : LeavesOnly sees old store.shelf
        (MayLeave (behind clock used) start [] (sees.files old))
    pub settled : IsSettled sees store.shelf

  -- so a run begins, or the folder isn't opened
  abbrev pub Begins : SeesFolder S
      → SeesTime C → (ℕ → ℕ) → S → Result (State S C) (S × C × OpenFault) → Type 0
  Begins sees ticks clock old (Ok store) =
      IsBegun sees ticks clock old store
  Begins sees ticks clock old (Err e) =
      LeavesUnopened sees clock e.2 old e.0
