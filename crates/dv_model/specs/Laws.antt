-- What holds of the definitions.
use Rattle.std.specs.Prelude.{◌≡◌, ◌⊎◌, ℕ, ◌+◌, ◌<◌, ◌≤◌, true, List, [], ◌∷◌, ◌++◌, length, map, drop, All, Some}
use Rattle.std.specs.List.Sorted.{IsStrictlyIncreasing}
use Rattle.dv_model.specs.declared.types.Command.{Command}
use Rattle.dv_model.specs.declared.types.Entry.{Entry}
use Rattle.dv_model.specs.declared.types.Group.{Group}
use Rattle.dv_model.specs.declared.types.Mailbox.{Mailbox}
use Rattle.dv_model.specs.declared.types.Reply.{Reply}
use Rattle.dv_model.specs.declared.types.Step.{Step}
use Rattle.dv_model.specs.Journals.{Log, IsBefore, IsEntry, IsSound, at, mark_of}
use Rattle.dv_model.specs.Mailboxes.{IsValid}
use Rattle.dv_model.specs.Sessions.{State}
use Rattle.dv_model.specs.Transcripts.{Answered, AreWritten, AreWrittenBut, HasLeft, IsTurn, Line, Runs, Serial, Speaks, Spoken, Turn, commands_of, replies_of, with_state}
use Rattle.dv_model.specs.Views.{View, all_heard, known_of, moved, said, shows_uid}

-- ---- a client has the view

-- the view's UIDs rise and were given out, and its keywords are in the table in which it was read
pub record IsReadIn (before : Mailbox) (view : View) : Type 0 where
  pub rising : IsStrictlyIncreasing (map (λ s. s.uid) view.rows)
  pub below : All (λ s. s.uid < view.next_uid) view.rows
  pub keywords : All (λ s. All (λ k. k < length before.keywords) s.keywords) view.rows

-- the mailbox may follow: its rows were shown or are new, and its table goes on from the older one
pub record Follows (before : Mailbox) (view : View) (m : Mailbox) : Type 0 where
  pub valid : IsValid m
  pub next_uid : view.next_uid ≤ m.next_uid
  pub rows : All (λ row. (shows_uid view row.uid ≡ true) ⊎ (view.next_uid ≤ row.uid)) m.rows
  pub more : List (List ℕ)
  pub names : m.keywords ≡ before.keywords ++ more

-- a client that had the old view has the new one after hearing what is said
abbrev pub ClientHasView : Type 0
ClientHasView = (step : Step) (before m : Mailbox) (view : View) → IsReadIn before view → Follows before view m
    → all_heard (known_of before view) (said m view (moved step view m)) ≡ known_of m (moved step view m)

-- ---- transcripts go on

-- a log with more entries at its end
abbrev pub with_entries : Log → List Entry → Log
with_entries log more = record log { entries = log.entries ++ more }

-- lines that were answered stay so where the log grows
abbrev pub RunsStay : Type 0
RunsStay = (log : Log) (more : List Entry) (base : ℕ) (states : ℕ → State) (met : ℕ) (lines : List Line) (replies : List (List Reply)) (after : ℕ → State) (q : ℕ)
    → q ≤ length log.entries → Runs log base states met lines replies after q → Runs (with_entries log more) base states met lines replies after q

-- one line more is answered behind them
abbrev pub RunsGoOn : Type 0
RunsGoOn = (log : Log) (base : ℕ) (states : ℕ → State) (met : ℕ) (lines : List Line) (replies : List (List Reply)) (mid : ℕ → State) (k : ℕ) (line : Line) (last : List Reply) (y : State) (q : ℕ)
    → Runs log base states met lines replies mid k
    → Answered log base line.0 k q (mid line.0) line.1 last y
    → Runs log base states met (lines ++ line ∷ []) (replies ++ last ∷ []) (with_state mid line.0 y) q

-- a transcript of a session stays one where others write
abbrev pub SpokenStays : Type 0
SpokenStays = (log : Log) (more : List Entry) (base author : ℕ) (commands : List Command) (replies : List (List Reply))
    → All (λ e. e.author ≡ author → ⊥) more
    → IsSound (with_entries log more)
    → Spoken log base author commands replies
    → Spoken (with_entries log more) base author commands replies

-- the next command of a transcript was answered by this turn
pub record IsNext {log : Log} {base author : ℕ} {commands : List Command} {replies : List (List Reply)} (s : Speaks log base author commands replies) (t : Turn) : Type 0 where
  pub rest : List Command
  pub next : drop (length replies) commands ≡ t.command ∷ rest
  pub state : t.before ≡ s.state
  pub turn : IsTurn log base author t

-- one command more is answered that wrote nothing
abbrev pub SpokenGoesOn : Type 0
SpokenGoesOn = (log : Log) (base author : ℕ) (commands : List Command) (replies : List (List Reply)) (s : Speaks log base author commands replies) (t : Turn)
    → IsSound log → IsNext s t → AreWritten log author s.start s.turns → Spoken log base author commands (replies ++ t.replies ∷ [])

-- one command more is answered that wrote the last entry of its session
abbrev pub SpokenGoesOnWriting : Type 0
SpokenGoesOnWriting = (log : Log) (base author : ℕ) (commands : List Command) (replies : List (List Reply)) (s : Speaks log base author commands replies) (t : Turn)
    → IsSound log → IsNext s t → t.behind ≡ t.met + 1 → AreWrittenBut log author s.start s.turns t.met → Spoken log base author commands (replies ++ t.replies ∷ [])

-- one entry more, of this author
abbrev pub with_group : Log → ℕ → Group → Log
with_group log author g = with_entries log (record { author = author; group = g } ∷ [])

-- the entry that the next command left may stand in the log before it is answered
abbrev pub SpokenWaits : Type 0
SpokenWaits = (log : Log) (base author : ℕ) (commands : List Command) (replies : List (List Reply)) (s : Speaks log base author commands replies) (c : Command) (rest : List Command) (g : Group)
    → AreWritten log author s.start s.turns
    → drop (length replies) commands ≡ c ∷ rest
    → IsSound (with_group log author g)
    → HasLeft (with_group log author g) author (length log.entries) s.state c
    → Spoken (with_group log author g) base author commands replies

-- a serial run is a transcript of each of its sessions
abbrev pub SerialIsSpoken : Type 0
SerialIsSpoken = (log : Log) (base faults : ℕ) (lines : List Line) (replies : List (List Reply)) (author : ℕ)
    → Serial log base faults lines replies
    → Spoken log base author (commands_of author lines) (replies_of author lines replies)

-- ---- places of the log

-- the place behind more entries lies behind
abbrev pub MarksRise : Type 0
MarksRise = (log : Log) (j k : ℕ) → All IsEntry log.entries → j < k → k ≤ length log.entries → IsBefore (mark_of log j) (mark_of log k)

-- a place is behind one number of entries
abbrev pub MarksAreDistinct : Type 0
MarksAreDistinct = (log : Log) (j k : ℕ) → All IsEntry log.entries → j ≤ length log.entries → k ≤ length log.entries → mark_of log j ≡ mark_of log k → j ≡ k
