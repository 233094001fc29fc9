-- What holds of transcripts.
use Rattle.std.specs.Prelude.{◌≡◌, ℕ, true, List, flat_map, take, All, Contains, Some}
use Rattle.dv_model.specs.declared.types.Command.{Command}
use Rattle.dv_model.specs.declared.types.Mailbox.{Mailbox}
use Rattle.dv_model.specs.declared.types.Mark.{Mark}
use Rattle.dv_model.specs.declared.types.Reply.{Reply}
use Rattle.dv_model.specs.declared.types.Step.TheVariants.{Full}
use Rattle.dv_model.specs.Journals.{Log, IsSound, at}
use Rattle.dv_model.specs.Sessions.{State, new_session}
use Rattle.dv_model.specs.Transcripts.{Line, Serial, Speaks, Spoken}
use Rattle.dv_model.specs.Views.{known_of, shown}
use Rattle.dv_interleavings.specs.Promises.{KeepsNumbers, all_known, heard_of}
use Rattle.dv_clients.specs.Clients.{KnowAlikeWhereTold, answers_of, line_answers, state_behind, told_last}

-- ---- one place shows one mailbox

-- the session's state behind the first k of its turns
abbrev pub state_at : {log : Log} {base author : ℕ} {commands : List Command}
    {replies : List (List Reply)} → Speaks log base author commands replies → ℕ → State
state_at s k = state_behind (record new_session { told = s.start }) (take k s.turns)

-- two sessions of one log that were both told by Full steps up to one place have equal views
abbrev pub ViewsAreEqual : Type 0
ViewsAreEqual = (log : Log) (base one other : ℕ) (commands rest : List Command)
    (replies more : List (List Reply)) (s : Speaks log base one commands replies)
    (t : Speaks log base other rest more) (j k : ℕ) (mark : Mark)
    → IsSound log
    → told_last (take j (answers_of commands replies)) ≡ Some (Full, mark)
    → told_last (take k (answers_of rest more)) ≡ Some (Full, mark)
    → (state_at s j).view ≡ (state_at t k).view

-- and their clients know the same
abbrev pub SpokenKnowAlike : Type 0
SpokenKnowAlike = (log : Log) (base one other : ℕ) (commands rest : List Command)
    (replies more : List (List Reply))
    → Spoken log base one commands replies → Spoken log base other rest more
    → KnowAlikeWhereTold (answers_of commands replies) (answers_of rest more)

-- so any two sessions of a script, one command after another
abbrev pub SerialKnowAlike : Type 0
SerialKnowAlike = (log : Log) (base faults : ℕ) (lines : List Line) (replies : List (List Reply))
    (one other : ℕ)
    → Serial log base faults lines replies
    → KnowAlikeWhereTold (line_answers one lines replies) (line_answers other lines replies)

-- ---- what a client knows

-- the view has each row of the mailbox up to which the session was told as it is shown, and the
-- client has the view
pub record IsShownTo (log : Log) (x : State) (answers : List (Command × List Reply)) : Type 0 where
  pub mailbox : Mailbox
  pub is : at log x.told ≡ Some mailbox
  pub rows : All (λ row. Contains x.view.rows (shown row)) mailbox.rows
  pub client : all_known (flat_map heard_of answers) ≡ known_of mailbox x.view

-- so behind each turn of a session that has selected the mailbox
abbrev pub ClientsHaveViews : Type 0
ClientsHaveViews = (log : Log) (base author : ℕ) (commands : List Command)
    (replies : List (List Reply)) (s : Speaks log base author commands replies) (k : ℕ)
    → IsSound log → (state_at s k).selected ≡ true
    → IsShownTo log (state_at s k) (take k (answers_of commands replies))

-- ---- a number keeps its UID

-- the numbers of a transcript's client keep their UIDs until an EXPUNGE is heard or a SELECT begins
abbrev pub SpokenKeepsNumbers : Type 0
SpokenKeepsNumbers = (log : Log) (base author : ℕ) (commands : List Command)
    (replies : List (List Reply))
    → Spoken log base author commands replies → KeepsNumbers (answers_of commands replies)

-- so do those of each session of a script
abbrev pub SerialKeepsNumbers : Type 0
SerialKeepsNumbers = (log : Log) (base faults : ℕ) (lines : List Line)
    (replies : List (List Reply)) (author : ℕ)
    → Serial log base faults lines replies → KeepsNumbers (line_answers author lines replies)
