-- A SELECT, and behind it a command that reads messages, in one hold of the lock.
use Rattle.std.specs.Prelude.{◌≡◌, ◌⊎◌, ℕ, true, List, ◌++◌, Result, Ok, Err}
use Rattle.dv_model.specs.declared.memory.NoMemory.{NoMemory}
use Rattle.dv_model.specs.declared.types.Command.{Command}
use Rattle.dv_model.specs.declared.types.Command.TheVariants.{Select}
use Rattle.dv_model.specs.declared.types.Reply.{Reply}
use Rattle.dv_model.specs.declared.types.Step.TheVariants.{Full}
use Rattle.dv_model.specs.Journals.{Log}
use Rattle.dv_model.specs.Transcripts.{IsTurn}
use Rattle.dv_model.specs.Views.{empty_view, moved}
use Rattle.dv_plans.specs.declared.fault.StoreFault.{StoreFault}
use Rattle.dv_front.specs.declared.notes.Note.{Note}
use Rattle.dv_member.specs.Calls.{IsAsBefore, turn_of, turned}
use Rattle.dv_member.specs.Members.{IsSession, Member, log_seen}
use Rattle.dv_keeper.specs.Sessions.{HasRejoined}
use Rattle.dv_keeper.specs.Turns.{HasAnswered, HasSeen, LeavesReader}

-- It has seen these notes, and no more: it caught up, and was answered SELECT there, by the session
-- rules. It is shown the whole mailbox behind them.
pub record HasSelected (start : Log) (count : ℕ) (notes : List Note) (lines : List Reply)
    (old new : Member) : Type 0 where
  pub caught : Member
  pub joined : HasRejoined old caught
  pub met : IsSession start count caught
  pub turn : IsTurn (log_seen start caught) count caught.number
      (turn_of (log_seen start caught) caught Select)
  pub said : lines ≡ (turn_of (log_seen start caught) caught Select).replies
  pub now : new ≡ turned caught (record new.follower {
    state = record {
      selected = true;
      view = moved Full empty_view caught.live;
      told = caught.seen;
    };
  })
  pub seen : HasSeen notes new
  pub session : IsSession start count new

-- The SELECT was answered over these notes, and so was the command behind it: its lines are a turn
-- by the session rules, or the one line of the disk's failure.
pub record SelectsAndReads (start : Log) (count : ℕ) (c : Command) (lines : List Reply)
    (old new : Member) : Type 0 where
  pub notes : List Note
  pub first : List Reply
  pub second : List Reply
  pub lines_are : lines ≡ first ++ second
  pub shown : Member
  pub selected : HasSelected start count notes first old shown
  pub came : Result (List ℕ) StoreFault
  pub reads : LeavesReader {E = NoMemory} notes came shown new (Ok tt)
  pub answered : HasAnswered start count c second shown new

-- over these notes it was shown the mailbox, and then the reading left it so
pub record IsLeftShown {A : Type 0} (start : Log) (count : ℕ) (notes : List Note)
    (came : Result A StoreFault) (old new : Member) (result : Result (Unit {0}) NoMemory)
    : Type 0 where
  pub lines : List Reply
  pub shown : Member
  pub selected : HasSelected start count notes lines old shown
  pub reads : LeavesReader notes came shown new result

-- Where the call answers, the session was shown the mailbox. Where memory ran out, it may be as
-- before, or have caught up with these notes alone.
abbrev pub LeavesSelected : {A : Type 0} → Log → ℕ → List Note → Result A StoreFault
    → Member → Member → Result (Unit {0}) NoMemory → Type 0
LeavesSelected start count notes came old new (Ok done) =
    IsLeftShown start count notes came old new (Ok done)
LeavesSelected start count notes came old new (Err e) =
    IsAsBefore old new
    ⊎ (HasRejoined old new × HasSeen notes new)
    ⊎ IsLeftShown start count notes came old new (Err e)
