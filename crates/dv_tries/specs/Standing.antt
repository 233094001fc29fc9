-- A store at the end of a log of notes. The records take what a shelf shows.
use Rattle.std.specs.Prelude.{◌≡◌, ℕ, Bool, true, List, length, Any, Some, ⊤}
use Rattle.dv_model.specs.declared.types.Mailbox.{Mailbox}
use Rattle.dv_model.specs.declared.types.Mark.{Mark}
use Rattle.dv_model.specs.Journals.{Log, at}
use Rattle.dv_shelf.specs.Sees.{SeesFolder}
use Rattle.dv_front.specs.declared.notes.Note.{Note}
use Rattle.dv_notes.specs.Logs.{AreNotesOf, log_of}
use Rattle.dv_files.specs.Texts.{place_of}
use Rattle.dv_writing.specs.Debts.{Debt, Pending}
use Rattle.dv_writing.specs.Writes.{IsAfter, log_with}
use Rattle.dv_plans.specs.Begins.{AtReading}
use Rattle.dv_store.specs.Commits.{text_by}
use Rattle.dv_store.specs.Rest.{IsAtRest}
use Rattle.dv_store.specs.States.{State}
use Rattle.dv_serving.specs.Places.{StandsAt, begin_at}
use Rattle.dv_tries.specs.Tries.{Try, end_mark, write_by}

-- ---- what is owed

-- the text of a try's group over this log, the mailbox with it, and the log that has it
pub record IsPendingBy (tells : Type 0) (log : Log) (t : Try) (text : List ℕ) (after : Mailbox)
    (written : Log) : Type 0 where
  pub met : Mailbox
  pub was_there : at log (length log.entries) ≡ Some met
  pub dated : AtReading tells t.reading (λ received.
      (text ≡ text_by log (write_by t received) met)
      × IsAfter log (write_by t received) met after
      × (written ≡ log_with log (write_by t received) met))

-- A group that may stand behind the log's end is that of a try which met all notes, and would begin
-- there.
abbrev pub IsOwedOf : Type 0 → Log → List Note → List Try → Mark → Debt → Type 0
IsOwedOf tells start notes tries place (Pending text after written) =
    (place ≡ begin_at (end_mark (log_of start notes)))
    × Any (λ (t : Try). (t.place ≡ length notes)
    × IsPendingBy tells (log_of start notes) t text after written) tries
IsOwedOf tells start notes tries place debt = ⊤

-- ---- a store

module _ {S C : Type 0} where
  -- over any shelf: it has the mailbox at the end of the notes, which are good, at their place
  pub record StandsBehind (start : Log) (notes : List Note) (store : State S C) : Type 0 where
    pub notes_are : AreNotesOf start notes
    pub rotates : start.rotates ≡ true
    pub mailbox : at (log_of start notes) (length (log_of start notes).entries)
        ≡ Some store.chain.live.mailbox
    pub mark : store.mark ≡ end_mark (log_of start notes)
    pub begun : Bool
    pub place : StandsAt begun store.mark (place_of store.chain) store.owed
    pub indexid : store.chain.indexid ≡ start.indexid

  -- it is at rest with their log, and owes no group but that of a try
  pub record RestsBehind (sees : SeesFolder S) (tells : Type 0) (start : Log) (notes : List Note)
      (tries : List Try) (store : State S C) : Type 0 where
    pub debt : Debt
    pub owed : IsOwedOf tells start notes tries (place_of store.chain) debt
    pub rests : IsAtRest sees (log_of start notes) debt store
