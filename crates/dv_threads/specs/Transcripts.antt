-- The transcripts of sessions that wrote one log together.
use Rattle.std.specs.Prelude.{◌≡◌, ◌≤◌, ℕ, true, List, All, take, Some}
use Rattle.dv_model.specs.declared.types.Command.{Command}
use Rattle.dv_model.specs.declared.types.Mark.{Mark}
use Rattle.dv_model.specs.declared.types.Reply.{Reply}
use Rattle.dv_model.specs.declared.types.Reply.TheVariants as reply
use Rattle.dv_model.specs.declared.types.Step.TheVariants.{Full}
use Rattle.dv_model.specs.Counts.{Rose}
use Rattle.dv_model.specs.Journals.{IsU32, Log}
use Rattle.dv_model.specs.Sessions.{IsCommand}
use Rattle.dv_interleavings.specs.Promises.{KeepsNumbers}
use Rattle.dv_clients.specs.Clients.{KnowAlikeWhereTold, answers_of, told_last}
use Rattle.dv_clients.specs.Laws.{IsShownTo, state_at}
use Rattle.dv_stories.specs.Growing.{AreNeverShorter, AreWrittenByAll}
use Rattle.dv_stories.specs.Stories.{AreAll, Progress, Story}
use Rattle.dv_schedules.specs.Schedules.{AreInterleaved}

-- ---- one session

-- the disk's failure is told by a count that rose since this one (RFC 5530, UNAVAILABLE)
abbrev pub IsAbove : ℕ → Reply → Type 0
IsAbove base r = (faults : ℕ) → r ≡ reply.Unavailable faults → Rose base faults

-- What a session did, by its story: no command met fewer entries than the session had seen, also
-- where it is refused; a client has its session's view, where that has selected the mailbox, and a
-- number keeps its UID; and a failure of the disk is told by a count that rose.
pub record IsFollowed {log : Log} {base author : ℕ} {commands : List Command}
    {replies : List (List Reply)} {p : Progress}
    (s : Story log base author commands replies p) : Type 0 where
  pub shorter : AreNeverShorter s.speaks.turns p.seen
  pub shown : (k : ℕ) → (state_at s.speaks k).selected ≡ true
      → IsShownTo log (state_at s.speaks k) (take k (answers_of commands replies))
  pub numbers : KeepsNumbers (answers_of commands replies)
  pub above : All (λ (lines : List Reply). All (IsAbove base) lines) replies

-- ---- two

-- Where both were told by Full steps up to one place, behind any of their commands, their views are
-- equal, and their clients know the same.
pub record AreAlike {log : Log} {base one other : ℕ} {commands rest : List Command}
    {replies more : List (List Reply)} {p q : Progress}
    (s : Story log base one commands replies p) (t : Story log base other rest more q) : Type 0
  where
    pub views : (j k : ℕ) (mark : Mark)
        → told_last (take j (answers_of commands replies)) ≡ Some (Full, mark)
        → told_last (take k (answers_of rest more)) ≡ Some (Full, mark)
        → (state_at s.speaks j).view ≡ (state_at t.speaks k).view
    pub clients : KnowAlikeWhereTold (answers_of commands replies) (answers_of rest more)

-- ---- all

-- Each of the sessions from 1 to n has a transcript of its commands over the log, by the session
-- rules. Each entry is that of one of their answered commands, or the last of a session whose
-- command isn't answered. Some order of their steps is an interleaving that has this log.
pub record AreTranscripts (log : Log) (base n : ℕ) (commands : ℕ → List Command)
    (replies : ℕ → List (List Reply)) : Type 0 where
  pub progress : ℕ → Progress
  pub all : AreAll log base n commands replies progress
  pub written : AreWrittenByAll log base n commands replies
  pub interleaved : AreInterleaved log n commands replies progress
  pub each : (i : ℕ) (low : 1 ≤ i) (high : i ≤ n) → IsFollowed (all.story i low high)
  pub alike : (i j : ℕ) (low : 1 ≤ i) (high : i ≤ n) (low_other : 1 ≤ j) (high_other : j ≤ n)
      → AreAlike (all.story i low high) (all.story j low_other high_other)

-- ---- laws

-- so it is where each session has a story, and what they count of their entries makes up the log
abbrev pub StoriesAreTranscripts : Type 0
StoriesAreTranscripts = (log : Log) (base n : ℕ) (commands : ℕ → List Command)
    (replies : ℕ → List (List Reply)) (p : ℕ → Progress)
    → IsU32 n → ((i : ℕ) → All IsCommand (commands i))
    → AreAll log base n commands replies p → AreTranscripts log base n commands replies
