-- What becomes of one call. The records take what a shelf shows.
use Rattle.std.specs.Prelude.{◌≡◌, ℕ, List, [], ◌∷◌, ◌++◌, Option, Some, None, Result, Ok, Err, ⊤}
use Rattle.dv_shelf.specs.Crashes.{LeavesOnly}
use Rattle.dv_shelf.specs.Sees.{SeesFolder}
use Rattle.dv_shelf.specs.Streams.{Appends, AppendsFront}
use Rattle.dv_model.specs.Counts.{Rose}
use Rattle.dv_maps.specs.Storages.{Storage}
use Rattle.dv_mdbox.specs.declared.fault.StorageFault.{StorageFault}
use Rattle.dv_mdbox.specs.declared.fault.StorageFault.TheVariants as fault
use Rattle.dv_mdbox.specs.declared.got.Got.{Got}
use Rattle.dv_mdbox.specs.declared.got.Got.TheVariants as got
use Rattle.dv_mdbox.specs.States.{State}
use Rattle.dv_mdbox_lines.specs.declared.answers.Answer.{Answer}
use Rattle.dv_mdbox_lines.specs.declared.answers.Answer.TheVariants as answer
use Rattle.dv_mdbox_lines.specs.Playing.{Tried}
use Rattle.dv_mdbox_lines.specs.Scripts.{Call}
use Rattle.dv_mdbox_lines.specs.Texts.{answer_text}
use Rattle.dv_serving.specs.Outputs.{Output}
use Rattle.dv_mdbox_serving.specs.declared.ending.CallEnd.{CallEnd}
use Rattle.dv_mdbox_serving.specs.declared.ending.CallEnd.TheVariants as call_end
use Rattle.dv_mdbox_serving.specs.Following.{Follows}
use Rattle.dv_mdbox_serving.specs.Groups.{LogsCall}
use Rattle.dv_mdbox_serving.specs.Places.{GivesBetween}
use Rattle.dv_mdbox_serving.specs.Purges.{PurgesSo}

-- ---- answers

-- what a fault is answered; want of memory has no answer
abbrev pub fault_answer : StorageFault → Option Answer
fault_answer fault.NoMemory = None
fault_answer (fault.Disk faults) = Some (answer.Disk faults)
fault_answer fault.None = Some answer.None
fault_answer fault.Full = Some answer.Full
fault_answer fault.Ids = Some answer.Ids
fault_answer fault.Files = Some answer.Files
fault_answer (fault.TooLong bytes) = Some (answer.TooLong bytes)

-- a message that was saved, and a count that was changed, is answered by the id
abbrev pub saved_answer : Result ℕ StorageFault → Option Answer
saved_answer (Ok id) = Some (answer.Done id)
saved_answer (Err e) = fault_answer e

abbrev pub counted_answer : ℕ → Result (Unit {0}) StorageFault → Option Answer
counted_answer id (Ok x) = Some (answer.Done id)
counted_answer id (Err e) = fault_answer e

-- a message that was read by its bytes, and a purge by how many ids went
abbrev pub read_answer : Result Got StorageFault → Option Answer
read_answer (Ok (got.Held bytes)) = Some (answer.Held bytes)
read_answer (Ok got.Damaged) = Some answer.Damaged
read_answer (Err e) = fault_answer e

abbrev pub purged_answer : Result ℕ StorageFault → Option Answer
purged_answer (Ok n) = Some (answer.Purged n)
purged_answer (Err e) = fault_answer e

-- the answer, or none where memory ran out
abbrev pub told_of : {E : Type 0} → Result Answer E → Option Answer
told_of (Ok told) = Some told
told_of (Err e) = None

-- ---- what is left

-- a call, what it was answered, and the ids that it removed
abbrev pub tried_of : Call → Option Answer → List ℕ → Tried
tried_of call told gone = record { call = call; answer = told; gone = gone }

module _ {S C : Type 0} where
  -- The call comes behind these by the storage's rules. A crash at any moment of it leaves the
  -- storage before it, or behind it, or what it may make.
  pub record IsCalled (sees : SeesFolder S) (start : Storage) (base : ℕ) (calls : List Tried)
      (call : Call) (told : Option Answer) (old new : State S C) : Type 0 where
    pub gone : List ℕ
    pub follows : Follows sees start base (calls ++ tried_of call told gone ∷ []) new
    pub since : LeavesOnly sees old.shelf new.shelf
        (GivesBetween start calls (tried_of call told gone))

  -- it was answered, its groups are the last entries, a purge that is done left the folder so, and
  -- of the text of that answer this was written
  pub record IsTold (sees : SeesFolder S) (start : Storage) (base : ℕ) (calls : List Tried)
      (call : Call) (written : List ℕ → Type 0) (old new : State S C) : Type 0 where
    pub told : Answer
    pub called : IsCalled sees start base calls call (Some told) old new
    pub logs : LogsCall call (Some told) old new
    pub purges : PurgesSo call (Some told) (sees.files old.shelf) old.chain.live.mailbox
        (sees.files new.shelf) new.chain.live.mailbox
    pub output : written (answer_text told)

  -- What becomes of one line: the call is answered, and the answer written; or memory ended it, and
  -- nothing is written; or the output failed, and a front of the answer is.
  abbrev pub RunsCall : SeesFolder S → Storage → ℕ → List Tried → Call
      → Result (Unit {0}) CallEnd → Output → State S C → State S C → Type 0
  RunsCall sees start base calls call (Ok done) out old new =
      IsTold sees start base calls call
      (λ text. out.told → Appends out.taken out.taken_now text) old new
  RunsCall sees start base calls call (Err call_end.NoMemory) out old new =
      IsCalled sees start base calls call None old new
      × (out.told → out.taken_now ≡ out.taken)
  RunsCall sees start base calls call (Err (call_end.Sink faults)) out old new =
      IsTold sees start base calls call
      (λ text. out.told → AppendsFront out.taken out.taken_now text) old new

-- an error has its cause: memory, or an output whose count of faults rose and is told
abbrev pub IsCaused : ℕ → ℕ → Result (Unit {0}) CallEnd → Type 0
IsCaused before now (Err (call_end.Sink faults)) = Rose before now × (faults ≡ now)
IsCaused before now result = ⊤
