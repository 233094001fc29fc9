-- What is played is a run by the rules.
use Rattle.std.specs.Prelude.{◌≡◌, ◌≤◌, ℕ, true, false, List, [], ◌∷◌, ◌++◌, flat_map, length, map, All, None, Some}
use Rattle.dv_model.specs.Counts.{Rose, RoseBy}
use Rattle.dv_model.specs.Journals.{IsSound, IsU32, Log, at, mark_of}
use Rattle.dv_model.specs.Sessions.{IsCommand, is_write, new_session}
use Rattle.dv_model.specs.Transcripts.{Line, Runs, Serial, unavailable_count}
use Rattle.dv_playing.specs.Playing.{Attempt, Failed, Outcome, Play, Served, begin, group_here, is_empty, played, refused_here, replies_to, step, with_group_here}

-- a session has a number of 32 bits, and a command is one of its type
abbrev pub IsLine : Line → Type 0
IsLine line = IsU32 line.0 × IsCommand line.1

-- a failure's count is above the one before the run
abbrev pub IsAbove : ℕ → Outcome → Type 0
IsAbove base Served = Unit {0}
IsAbove base (Failed faults rotation) = Rose base faults

-- a line that may be played
pub record IsAttempt (base : ℕ) (a : Attempt) : Type 0 where
  pub line : IsLine a.line
  pub count : IsAbove base a.outcome

-- a sound log without entries, lines that may be played over it, and no more failures than the count rose by
pub record MayPlay (clock : ℕ → ℕ) (start : Log) (base faults : ℕ) (attempts : List Attempt) : Type 0 where
  pub sound : IsSound start
  pub new : start.entries ≡ []
  pub each : All (IsAttempt base) attempts
  pub few : RoseBy (unavailable_count (replies_to clock (begin start) attempts)) base faults

-- the lines that were played
abbrev pub lines_of : List Attempt → List Line
lines_of attempts = map (λ a. a.line) attempts

-- what is played is a run over the log that it makes, whatever lines follow unanswered
abbrev pub PlaysAreSerial : Type 0
PlaysAreSerial = (clock : ℕ → ℕ) (start : Log) (base faults : ℕ) (attempts : List Attempt) (rest : List Line)
    → MayPlay clock start base faults attempts
    → Serial (played clock (begin start) attempts).log base faults (lines_of attempts ++ rest) (replies_to clock (begin start) attempts)

-- a write that the rules allow here, with a group
pub record MayWrite (play : Play) (line : Line) : Type 0 where
  pub good : IsLine line
  pub write : is_write line.1 ≡ true
  pub allowed : refused_here play line ≡ None
  pub some : is_empty (group_here play line) ≡ false

-- so it is where the first line that isn't answered left its group
abbrev pub PlaysMayLeave : Type 0
PlaysMayLeave = (clock : ℕ → ℕ) (start : Log) (base faults : ℕ) (attempts : List Attempt) (line : Line) (rest : List Line)
    → MayPlay clock start base faults attempts
    → MayWrite (played clock (begin start) attempts) line
    → Serial (with_group_here clock (played clock (begin start) attempts) line).log base faults (lines_of attempts ++ line ∷ rest) (replies_to clock (begin start) attempts)

-- the log is sound, and its end is where the play stands
pub record IsAtEnd (play : Play) : Type 0 where
  pub sound : IsSound play.log
  pub mailbox : at play.log (length play.log.entries) ≡ Some play.mailbox
  pub mark : play.mark ≡ mark_of play.log (length play.log.entries)

-- The lines are answered one after another over the log that is made, from its first entry to its
-- last: so its entries are the groups of the lines that are answered with a mark, each once.
abbrev pub PlaysAnswer : Type 0
PlaysAnswer = (clock : ℕ → ℕ) (start : Log) (base faults : ℕ) (attempts : List Attempt)
    → MayPlay clock start base faults attempts
    → let end : Play = played clock (begin start) attempts in
    Runs end.log base (λ s. new_session) 0 (lines_of attempts)
    (replies_to clock (begin start) attempts) end.states (length end.log.entries)

-- so it stands behind all lines
abbrev pub PlaysStand : Type 0
PlaysStand = (clock : ℕ → ℕ) (start : Log) (base faults : ℕ) (attempts : List Attempt)
    → MayPlay clock start base faults attempts → IsAtEnd (played clock (begin start) attempts)

-- ---- failures

-- the count that a failure tells
abbrev pub failure_of : Outcome → List ℕ
failure_of Served = []
failure_of (Failed faults rotation) = faults ∷ []

-- those of lines in turn
abbrev pub failures_of : List Attempt → List ℕ
failures_of attempts = flat_map (λ a. failure_of a.outcome) attempts

-- The counts rise from `low`: each is above the one before it, or stands at its type's end. None
-- is above `high`.
abbrev pub RiseFrom : ℕ → List ℕ → ℕ → Type 0
RiseFrom low [] high = low ≤ high
RiseFrom low (n ∷ ns) high = Rose low n × RiseFrom n ns high

-- so there are no more of them than the count rose by, and each is above the first one
abbrev pub FailuresRise : Type 0
FailuresRise = (low high : ℕ) (ns : List ℕ) → RiseFrom low ns high
    → RoseBy (length ns) low high × All (Rose low) ns

-- ---- one line more

abbrev pub PlaysGoOn : Type 0
PlaysGoOn = (clock : ℕ → ℕ) (play : Play) (attempts : List Attempt) (a : Attempt)
    → played clock play (attempts ++ a ∷ []) ≡ (step clock (played clock play attempts) a).play

-- its replies are the last
abbrev pub RepliesGoOn : Type 0
RepliesGoOn = (clock : ℕ → ℕ) (play : Play) (attempts : List Attempt) (a : Attempt)
    → replies_to clock play (attempts ++ a ∷ []) ≡ replies_to clock play attempts ++ (step clock (played clock play attempts) a).replies ∷ []
