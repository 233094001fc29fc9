-- Sessions that are served follow a play. The records take what a shelf and a clock show.
use Rattle.std.specs.Prelude.{◌≡◌, ◌⊎◌, ◌+◌, ◌<◌, ◌++◌, ℕ, true, List, [], ◌∷◌, All, get_or, length, ⊤}
use Rattle.dv_model.specs.declared.types.Mailbox.{Mailbox}
use Rattle.dv_model.specs.Journals.{Log}
use Rattle.dv_model.specs.Sessions.{State}
use Rattle.dv_model.specs.Transcripts.{Line}
use Rattle.dv_shelf.specs.Clocks.{behind}
use Rattle.dv_shelf.specs.Crashes.{LeavesOnly}
use Rattle.dv_shelf.specs.Folders.{Folder}
use Rattle.dv_logfile.specs.Settling.{StaysSettled}
use Rattle.dv_files.specs.Texts.{place_of}
use Rattle.dv_writing.specs.Debts.{Debt}
use Rattle.dv_answer.specs.Following.{Follower, IsAbreast}
use Rattle.dv_playing.specs.Laws.{IsAttempt, MayPlay, MayWrite, RiseFrom, failures_of}
use Rattle.dv_playing.specs.Playing.{Attempt, Outcome, Play, Served, step}
use Rattle.dv_store.specs.Rest.{IsAtRest}
use Rattle.dv_serving.specs.Faults.{Faults}
use Rattle.dv_serving.specs.Readings.{AreAlike, AreReadings}
use Rattle.dv_serial.specs.Others.{KeepsOthers}
use Rattle.dv_serial.specs.Places.{GivesBetween, IsOwedBehind, play_of}
use Rattle.dv_serving.specs.Places.{StandsAt}
use Rattle.dv_serial.specs.Servings.{Serving}
use Rattle.dv_shelf.specs.Sees.{SeesFolder, SeesTime}

-- From what lines are played: a clock's readings to come, whether it tells them or not, the log at
-- first, and how often the folder's calls had failed.
pub record Origin : Type 0 where
  pub clock : ℕ → ℕ
  pub start : Log
  pub base : ℕ

abbrev pub origin_of : (ℕ → ℕ) → Log → ℕ → Origin
origin_of clock start base = record { clock = clock; start = start; base = base }

-- There are readings with which this holds of what comes behind these lines: those that the lines
-- used are the same, and all are where the clock tells them.
pub record ReadsOn (tells : Type 0) (origin : Origin) (attempts : List Attempt)
    (Holds : Origin → Type 0) : Type 0 where
  pub clock : ℕ → ℕ
  pub small : AreReadings clock
  pub told : tells → (n : ℕ) → clock n ≡ origin.clock n
  pub alike : AreAlike (play_of origin.clock origin.start attempts).used origin.clock clock
  pub holds : Holds (origin_of clock origin.start origin.base)

-- each session, from number 1 on, has its state, and is abreast of the mailbox
pub record AreSeated (m : Mailbox) (state_of : ℕ → State) (seats : List Follower) : Type 0 where
  pub abreast : All (IsAbreast m) seats
  pub states : (k : ℕ) (f : Follower) → k < length seats
      → (get_or seats k f).state ≡ state_of (k + 1)

-- as many sessions, with the same states
pub record HasStates (before now : List Follower) : Type 0 where
  pub count : length now ≡ length before
  pub states : (k : ℕ) (f : Follower) → k < length before
      → (get_or now k f).state ≡ (get_or before k f).state

-- the lines with one more, and what came of it
abbrev pub with_line : List Attempt → Line → Outcome → List Attempt
with_line attempts line outcome = attempts ++ record { line = line; outcome = outcome } ∷ []

-- a line that wasn't answered: it left the log as it was, or it is a write that was served
pub record MayBeLeft (clock : ℕ → ℕ) (base : ℕ) (play : Play) (a : Attempt) : Type 0 where
  pub attempt : IsAttempt base a
  pub log : ((step clock play a).play.log ≡ play.log)
      ⊎ ((a.outcome ≡ Served) × MayWrite play a.line)

-- what the first line that wasn't answered came to, where it came to anything
abbrev pub IsLeft : (ℕ → ℕ) → ℕ → Play → Line → List Attempt → Type 0
IsLeft clock base play line [] = ⊤
IsLeft clock base play line (a ∷ []) = (a.line ≡ line) × MayBeLeft clock base play a
IsLeft clock base play line attempts = ⊥

module _ {S C : Type 0} where
  -- the number of groups, the mailbox and the places are where the play stands
  pub record IsAt (play : Play) (serving : Serving S C) : Type 0 where
    pub rotates : play.log.rotates ≡ true
    pub groups : length play.log.entries ≡ serving.groups
    pub mailbox : play.mailbox ≡ serving.store.chain.live.mailbox
    pub mark : play.mark ≡ serving.store.mark
    pub place : StandsAt play.begun play.mark (place_of serving.store.chain) serving.store.owed

  -- so it is behind these lines, and the store is at rest with the play's log and what is owed
  pub record Keeps (sees : SeesFolder S) (clock : ℕ → ℕ)
      (start : Log) (attempts : List Attempt) (serving : Serving S C) : Type 0 where
    pub at : IsAt (play_of clock start attempts) serving
    pub debt : Debt
    pub owed : IsOwedBehind clock start attempts (place_of serving.store.chain) debt
    pub rests : IsAtRest sees (play_of clock start attempts).log debt serving.store

  -- The lines were played, those that failed told counts that rose up to this one, and sessions
  -- are where the play has them; so is the clock, where it tells its readings.
  pub record Follows (sees : SeesFolder S) (ticks : SeesTime C) (origin : Origin) (faults : ℕ)
      (attempts : List Attempt) (serving : Serving S C) : Type 0 where
    pub may : MayPlay origin.clock origin.start origin.base faults attempts
    pub failures : RiseFrom origin.base (failures_of attempts) faults
    pub keeps : Keeps sees origin.clock origin.start attempts serving
    pub small : AreReadings origin.clock
    pub readings : ticks.tells → ticks.upcoming serving.store.clock
        ≡ behind origin.clock (play_of origin.clock origin.start attempts).used
    pub seats : AreSeated serving.store.chain.live.mailbox
        (play_of origin.clock origin.start attempts).states serving.seats

  -- What is left keeps the log behind these lines, and a crash at any moment since leaves that, or
  -- the log behind the lines before. A settled folder is settled again, where no fault was counted.
  pub record Leaves (sees : SeesFolder S) (clock : ℕ → ℕ) (start : Log)
      (before attempts : List Attempt) (old new : Serving S C) : Type 0 where
    pub keeps : Keeps sees clock start attempts new
    pub since : LeavesOnly sees old.store.shelf new.store.shelf
        (GivesBetween clock start before attempts)
    pub settled : StaysSettled sees old.store.shelf new.store.shelf

  -- Where a line wasn't answered: behind the lines so far, or behind that one too. It was failed
  -- only where the count of faults rose.
  pub record EndsAt (sees : SeesFolder S) (origin : Origin) (faults : Faults)
      (attempts : List Attempt) (line : Line) (old new : Serving S C) : Type 0 where
    pub left : List Attempt
    pub is : IsLeft origin.clock origin.base (play_of origin.clock origin.start attempts) line left
    pub failures : RiseFrom faults.before (failures_of left) faults.now
    pub leaves : Leaves sees origin.clock origin.start attempts (attempts ++ left) old new
    pub others : KeepsOthers origin.clock origin.start (attempts ++ left)
        (sees.files old.store.shelf) (sees.files new.store.shelf)
