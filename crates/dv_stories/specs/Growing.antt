-- Transcripts go on with their log.
use Rattle.std.specs.Prelude.{◌≡◌, ℕ, ◌≤◌, List, [], ◌∷◌, ◌++◌, drop, length, All, AllPairs, None, Some, true}
use Rattle.dv_model.specs.declared.types.Command.{Command}
use Rattle.dv_model.specs.declared.types.Group.{Group}
use Rattle.dv_model.specs.declared.types.Mailbox.{Mailbox}
use Rattle.dv_model.specs.declared.types.Reply.{Reply}
use Rattle.dv_model.specs.Journals.{Log, IsSound, at}
use Rattle.dv_model.specs.Sessions.{State}
use Rattle.dv_model.specs.Transcripts.{IsTurn, Line, Serial, Speaks, Spoken, Turn, commands_of, refused_at, replies_of, with_written}
use Rattle.dv_interleavings.specs.Promises.{GoesOn}
use Rattle.dv_interleavings.specs.Worlds.{is_bad}
use Rattle.dv_stories.specs.Stories.{AreAll, IsNextTurn, NextLeft, Progress, Story, new_progress, with_left, with_turn}

-- ---- the log goes on

-- a log goes on to itself
abbrev pub LogStays : Type 0
LogStays = (log : Log) → GoesOn log log

-- and further than it went on
abbrev pub LogGoesFurther : Type 0
LogGoesFurther = (log between later : Log)
    → GoesOn log between → GoesOn between later → GoesOn log later

-- by the group of a command, and the message that it appends
abbrev pub WrittenGoesOn : Type 0
WrittenGoesOn = (log : Log) (author : ℕ) (c : Command) (received : ℕ) (g : Group) (m : Mailbox)
    → IsSound log → at log (length log.entries) ≡ Some m
    → GoesOn log (with_written log author c received g m)

-- ---- a transcript stays

-- A turn stays one where more entries follow, by whatever author, with their messages and GUIDs.
abbrev pub TurnsStay : Type 0
TurnsStay = (log later : Log) (base author : ℕ) (t : Turn)
    → IsSound log → GoesOn log later → IsTurn log base author t → IsTurn later base author t

-- so a transcript has the same turns, whoever wrote the entries
pub record SpeaksOn {log : Log} {base author : ℕ} {commands : List Command}
    {replies : List (List Reply)} (s : Speaks log base author commands replies) (later : Log)
    : Type 0 where
  pub speaks : Speaks later base author commands replies
  pub start : speaks.start ≡ s.start
  pub turns : speaks.turns ≡ s.turns
  pub state : speaks.state ≡ s.state

-- whatever the log's next entries
abbrev pub SpeaksStays : Type 0
SpeaksStays = (log later : Log) (base author : ℕ) (commands : List Command)
    (replies : List (List Reply)) (s : Speaks log base author commands replies)
    → IsSound log → GoesOn log later → SpeaksOn s later

-- and it has all its entries where others wrote the new ones
abbrev pub SpokenStaysOn : Type 0
SpokenStaysOn = (log later : Log) (base author : ℕ) (commands : List Command)
    (replies : List (List Reply)) (on : GoesOn log later)
    → IsSound later → All (λ e. e.author ≡ author → ⊥) on.more
    → Spoken log base author commands replies → Spoken later base author commands replies

-- ---- a story goes on

-- a session is made before the log's first entry
abbrev pub StoryBegins : Type 0
StoryBegins = (log : Log) (base author : ℕ) (commands : List Command)
    → Story log base author commands [] new_progress

-- it sees more of a log that went on
abbrev pub StorySeesMore : Type 0
StorySeesMore = (log later : Log) (base author : ℕ) (commands : List Command)
    (replies : List (List Reply)) (p : Progress) (seen : ℕ)
    → IsSound log → GoesOn log later → p.seen ≤ seen → seen ≤ length later.entries
    → Story log base author commands replies p
    → Story later base author commands replies (record p { seen = seen })

-- a command that its session refuses by itself is refused so over any mailbox, so also over the
-- one that it has seen
abbrev pub OwnRefusalsStand : Type 0
OwnRefusalsStand = (log other : Log) (j k : ℕ) (x : State) (c : Command) (m n : Mailbox)
    → is_bad x c ≡ true → refused_at log j x c m ≡ refused_at other k x c n

-- one command more is answered
abbrev pub StoryGoesOn : Type 0
StoryGoesOn = (log : Log) (base author : ℕ) (commands : List Command)
    (replies : List (List Reply)) (p : Progress) (t : Turn)
    → p.left ≡ None → Story log base author commands replies p
    → IsNextTurn log base author commands replies p t
    → Story log base author commands (replies ++ t.replies ∷ []) (with_turn p t)

-- the next command wrote its entry, and isn't answered
abbrev pub StoryEnds : Type 0
StoryEnds = (log : Log) (base author : ℕ) (commands : List Command)
    (replies : List (List Reply)) (p : Progress) (k : ℕ)
    → p.left ≡ None → p.seen ≤ k → Story log base author commands replies p
    → NextLeft log author p.state (drop (length replies) commands) k
    → Story log base author commands replies (with_left p k)

-- ---- what a session has seen

-- a turn's place is no less than what it met, and later turns met no fewer entries
pub record AreNeverShorter (turns : List Turn) (seen : ℕ) : Type 0 where
  pub each : All (λ t. (t.met ≤ t.behind) × (t.behind ≤ seen)) turns
  pub later : AllPairs (λ one other. one.behind ≤ other.met) turns

-- a command is answered behind no fewer entries than its session had seen, also where it is refused
abbrev pub StoriesAreNeverShorter : Type 0
StoriesAreNeverShorter = (log : Log) (base author : ℕ) (commands : List Command)
    (replies : List (List Reply)) (p : Progress) (s : Story log base author commands replies p)
    → AreNeverShorter s.speaks.turns p.seen

-- ---- who wrote the entries

-- Where the sessions' own counts make up the log, each entry is that of one of their answered
-- commands, or the one that its session left; each session's transcript has all its entries.
pub record AreWrittenByAll (log : Log) (base n : ℕ) (commands : ℕ → List Command)
    (replies : ℕ → List (List Reply)) : Type 0 where
  pub authors : All (λ e. (1 ≤ e.author) × (e.author ≤ n)) log.entries
  pub spoken : (i : ℕ) → 1 ≤ i → i ≤ n → Spoken log base i (commands i) (replies i)

-- by counting alone
abbrev pub AllAreWritten : Type 0
AllAreWritten = (log : Log) (base n : ℕ) (commands : ℕ → List Command)
    (replies : ℕ → List (List Reply)) (p : ℕ → Progress)
    → AreAll log base n commands replies p → AreWrittenByAll log base n commands replies

-- ---- one command after another

-- each session of these lines has a story, and together they wrote the log
pub record HaveStories (log : Log) (base n : ℕ) (lines : List Line)
    (replies : List (List Reply)) : Type 0 where
  pub progress : ℕ → Progress
  pub all : AreAll log base n (λ i. commands_of i lines) (λ i. replies_of i lines replies) progress

-- so it is with a script's lines, one after another, by sessions from 1 to n
abbrev pub SerialHasStories : Type 0
SerialHasStories = (log : Log) (base faults n : ℕ) (lines : List Line)
    (replies : List (List Reply))
    → All (λ line. (1 ≤ line.0) × (line.0 ≤ n)) lines
    → Serial log base faults lines replies → HaveStories log base n lines replies
