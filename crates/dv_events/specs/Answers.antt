-- Commands that write nothing are answered.
use Rattle.std.specs.Prelude.{◌≡◌, ℕ, false, true, List, [], ◌∷◌, ◌++◌, None, Result, Ok}
use Rattle.dv_model.specs.declared.memory.NoMemory.{NoMemory}
use Rattle.dv_model.specs.declared.types.Command.{Command}
use Rattle.dv_model.specs.declared.types.Command.TheVariants as command
use Rattle.dv_model.specs.declared.types.Reply.{Reply}
use Rattle.dv_model.specs.declared.types.Reply.TheVariants as reply
use Rattle.dv_model.specs.declared.types.Step.{Step}
use Rattle.dv_model.specs.declared.types.Step.TheVariants.{Full}
use Rattle.dv_model.specs.declared.types.Word.TheVariants as word
use Rattle.dv_model.specs.Journals.{Log, mark_of}
use Rattle.dv_model.specs.Sessions.{State, data_of, ending_of, is_select, is_write, reads_mail, step_of, told_of}
use Rattle.dv_model.specs.Views.{empty_view, moved, said}
use Rattle.dv_shelf.specs.Folders.{Folder}
use Rattle.dv_shelf.specs.Sees.{SeesFolder, SeesTime}
use Rattle.dv_schedules.specs.Calls.{Answer, Refresh}
use Rattle.dv_plans.specs.declared.fault.StoreFault.{StoreFault}
use Rattle.dv_answer.specs.Refusing.{own_refusal}
use Rattle.dv_member.specs.Calls.{IsAsBefore, turn_of, turned}
use Rattle.dv_member.specs.Members.{IsSession, Member, log_seen}
use Rattle.dv_shared.specs.Holding.{Holds}
use Rattle.dv_shared.specs.Kept.{Kept, notes_in}
use Rattle.dv_keeper.specs.Selecting.{HasSelected, LeavesSelected, SelectsAndReads}
use Rattle.dv_keeper.specs.Turns.{HasAnswered, LeavesReader}
use Rattle.dv_events.specs.Worlds.{History, CallsLead, history_of}

-- ---- without the lock

-- the last line of a command over what a session has seen
abbrev pub last_line : Log → Member → Command → Reply
last_line start s c =
    let log : Log = log_seen start s in
    ending_of log.mail c s.follower.state.view s.live s.live (mark_of log s.seen)

-- a command that reads no messages is answered, whatever others published since
abbrev pub AnswerTells : Type 0
AnswerTells = (start : Log) (count : ℕ) (old new : Member) (c : Command) (h : History)
    → IsSession start count old → old.spent ≡ false
    → is_write c ≡ false → own_refusal old.follower.state c ≡ None
    → new ≡ turned old (record new.follower {
      state = (turn_of (log_seen start old) old c).after;
    })
    → CallsLead start (Answer old.number c ∷ []) h h old new
    ((c, (turn_of (log_seen start old) old c).replies) ∷ [])

-- SELECT is answered where the last line is its own
abbrev pub SelectTells : Type 0
SelectTells = (start : Log) (count : ℕ) (old new : Member) (last : Reply) (h : History)
    → IsSession start count old → old.spent ≡ false
    → last ≡ reply.Done word.Select (mark_of (log_seen start old) old.seen) None []
    → new ≡ turned old (record {
      state = record {
        selected = true;
        view = moved Full empty_view old.live;
        told = old.seen;
      };
      touched = [];
    })
    → CallsLead start (Answer old.number command.Select ∷ []) h h old new
    ((
      command.Select,
      told_of command.Select old.live empty_view (moved Full empty_view old.live)
          ++ last ∷ [],
    ) ∷ [])

-- Another command is answered by its data lines, which are taken before, by what is told of its
-- step and by its last line.
abbrev pub TellTells : Type 0
TellTells = (start : Log) (count : ℕ) (old new : Member) (c : Command) (step : Step) (last : Reply)
    (h : History)
    → IsSession start count old → old.spent ≡ false
    → is_write c ≡ false → is_select c ≡ false → own_refusal old.follower.state c ≡ None
    → step ≡ step_of c → last ≡ last_line start old c
    → new ≡ turned old (record {
      state = record {
        selected = true;
        view = moved step old.follower.state.view old.live;
        told = old.seen;
      };
      touched = new.follower.touched;
    })
    → CallsLead start (Answer old.number c ∷ []) h h old new
    ((
      c,
      data_of (log_seen start old).mail c old.follower.state.view old.live
          ++ said old.live old.follower.state.view (moved step old.follower.state.view old.live)
          ++ last ∷ [],
    ) ∷ [])

-- ---- under the lock

-- a command that reads messages is answered behind a load of all that was published
abbrev pub MailTells : {S C : Type 0} → SeesFolder S → SeesTime C → Log → ℕ
    → (ℕ → Folder → Type 0) → Type 0 → ℕ → Type 0
MailTells {S} {C} sees times start moment past honest count =
    (old new : Member) (c : Command) (k : Kept S C) (damaged : List ℕ) (lines : List Reply)
    → old.spent ≡ false → reads_mail c ≡ true → own_refusal old.follower.state c ≡ None
    → Holds sees times.tells start moment past honest k
    → LeavesReader {E = NoMemory} (notes_in k) (Ok damaged) old new (Ok tt)
    → HasAnswered start count c lines old new
    → CallsLead start (Refresh old.number ∷ Answer old.number c ∷ []) (history_of k) (history_of k)
    old new ((c, lines) ∷ [])

-- a SELECT, and behind it such a command in the same hold of the lock: each is answered behind a
-- load of all that was published
abbrev pub SelectAndReadTells : {S C : Type 0} → SeesFolder S → SeesTime C → Log → ℕ
    → (ℕ → Folder → Type 0) → Type 0 → ℕ → Type 0
SelectAndReadTells {S} {C} sees times start moment past honest count =
    (old new : Member) (c : Command) (k : Kept S C) (came : Result (List ℕ) StoreFault)
    (damaged : List ℕ) (lines : List Reply)
    → old.spent ≡ false → reads_mail c ≡ true
    → ((x : State) → x.selected ≡ true → own_refusal x c ≡ None)
    → Holds sees times.tells start moment past honest k
    → LeavesSelected start count (notes_in k) came old new (Ok tt)
    → (both : SelectsAndReads start count c lines old new) → both.came ≡ Ok damaged
    → CallsLead start
    (Refresh old.number ∷ Answer old.number command.Select
    ∷ Refresh old.number ∷ Answer old.number c ∷ [])
    (history_of k) (history_of k) old new ((command.Select, both.first) ∷ (c, both.second) ∷ [])

-- Where the disk failed the reading behind it, or memory ran out there, the SELECT is answered
-- behind a load, and that is all.
abbrev pub UnreadSelectTells : Log → ℕ → Type 0
UnreadSelectTells start count = (refused : ℕ) (old shown new : Member) (lines : List Reply)
    (h : History)
    → old.spent ≡ false → HasSelected start count h.notes lines old shown
    → IsAsBefore (record shown { refused = refused }) new
    → CallsLead start (Refresh old.number ∷ Answer old.number command.Select ∷ []) h h old new
    ((command.Select, lines) ∷ [])
