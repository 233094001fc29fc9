-- What becomes of one line.
use Rattle.std.specs.Prelude.{◌≡◌, ◌⊎◌, ◌+◌, ◌<◌, ◌≤◌, ℕ, List, All, None, Some, get_or, length, slice_set, Result, Ok, Err}
use Rattle.dv_model.specs.declared.types.Command.{Command}
use Rattle.dv_model.specs.declared.types.Record.{Record}
use Rattle.dv_model.specs.declared.types.Reply.{Reply}
use Rattle.dv_model.specs.Effects.{applied}
use Rattle.dv_model.specs.Transcripts.{Line}
use Rattle.dv_shelf.specs.Crashes.{LeavesOnly}
use Rattle.dv_shelf.specs.Sees.{SeesFolder, SeesTime}
use Rattle.dv_logfile.specs.Settling.{StaysSettled}
use Rattle.dv_answer.specs.Following.{Follower, IsAbreast, Leads, new_follower}
use Rattle.dv_answer.specs.Refusing.{own_refusal}
use Rattle.dv_store.specs.Rest.{IsLookedAt}
use Rattle.dv_playing.specs.Playing.{Attempt, Outcome, step}
use Rattle.dv_serving.specs.Faults.{Faults, TellsFailure}
use Rattle.dv_serving.specs.Servable.{IsServable}
use Rattle.dv_serial.specs.Following.{EndsAt, Follows, Origin, with_line}
use Rattle.dv_serial.specs.Others.{KeepsOthers}
use Rattle.dv_serial.specs.Places.{GivesBetween, play_of}
use Rattle.dv_serial.specs.Servings.{Serving}

-- there is a session of this number
abbrev pub IsSeat : {X : Type 0} → ℕ → List X → Type 0
IsSeat number seats = (1 ≤ number) × (number ≤ length seats)

-- the session at a place, counted from 0
abbrev pub seat_at : List Follower → ℕ → Follower
seat_at seats at = get_or seats at new_follower

-- there is a session of this number, and its command may be served
pub record IsAsked (seats : List Follower) (number : ℕ) (c : Command) : Type 0 where
  pub seat : IsSeat number seats
  pub servable : IsServable c

-- a command that may be served, which the session at this place doesn't refuse
pub record IsAllowed (seats : List Follower) (at : ℕ) (c : Command) : Type 0 where
  pub seat : at < length seats
  pub servable : IsServable c
  pub allowed : own_refusal (seat_at seats at).state c ≡ None

module _ {S C : Type 0} where
  -- only the folder's reads and what is read of the cache file change
  pub record OnlyLooksAt (old new : Serving S C) : Type 0 where
    pub store : IsLookedAt old.store new.store
    pub seats : new.seats ≡ old.seats
    pub groups : new.groups ≡ old.groups

  -- each session keeps up with the mailbox
  abbrev pub AreAbreast : Serving S C → Type 0
  AreAbreast serving = All (IsAbreast serving.store.chain.live.mailbox) serving.seats

  -- with this session at a place
  abbrev pub with_seat : ℕ → Follower → Serving S C → Serving S C
  with_seat at f serving = record serving { seats = slice_set serving.seats at f }

  -- no group was written
  pub record HasNoGroup (old new : Serving S C) : Type 0 where
    pub mailbox : new.store.chain.live.mailbox ≡ old.store.chain.live.mailbox
    pub groups : new.groups ≡ old.groups

  -- One was, whose records made the mailbox. Each UID whose row is shown in another way is among
  -- these.
  pub record HasOneGroup (old new : Serving S C) (touched : List ℕ) : Type 0 where
    pub records : List Record
    pub some : 1 ≤ length records
    pub gives : applied old.store.chain.live.mailbox records ≡ Some new.store.chain.live.mailbox
    pub leads : Leads old.store.chain.live.mailbox new.store.chain.live.mailbox touched
    pub groups : new.groups ≡ old.groups + 1

  -- a write: its group was written, or it has none, or an error came before
  abbrev pub Wrote : {E : Type 0} → Serving S C → Serving S C → Result (List ℕ) E → Type 0
  Wrote old new (Ok touched) = HasNoGroup old new ⊎ HasOneGroup old new touched
  Wrote old new (Err e) = HasNoGroup old new

  -- a line that is answered: it wrote one group, which touched these UIDs, or none
  abbrev pub Grows : {E : Type 0} → Serving S C → Serving S C → List ℕ → Result (Unit {0}) E
      → Type 0
  Grows old new touched (Ok done) = HasNoGroup old new ⊎ HasOneGroup old new touched
  Grows old new touched (Err e) = new.groups ≤ old.groups + 1

  -- The line is one step of the play, with what came of it, and has the replies of that; a failure
  -- tells the count behind it, which rose. A crash at any moment leaves the log behind the lines
  -- before, or behind this one too; files that no line writes stay, and a settled folder is settled
  -- again, where no fault was counted.
  pub record IsServed (sees : SeesFolder S) (ticks : SeesTime C) (origin : Origin) (faults : Faults)
      (attempts : List Attempt) (line : Line) (replies : List Reply) (old new : Serving S C)
      : Type 0 where
    pub outcome : Outcome
    pub answers : (step origin.clock (play_of origin.clock origin.start attempts)
        (record { line = line; outcome = outcome })).replies ≡ replies
    pub count : TellsFailure faults outcome
    pub follows : Follows sees ticks origin faults.now (with_line attempts line outcome) new
    pub since : LeavesOnly sees old.store.shelf new.store.shelf
        (GivesBetween origin.clock origin.start attempts (with_line attempts line outcome))
    pub settled : StaysSettled sees old.store.shelf new.store.shelf
    pub others : KeepsOthers origin.clock origin.start (with_line attempts line outcome)
        (sees.files old.store.shelf) (sees.files new.store.shelf)

  -- it is served, or memory ended it
  abbrev pub Serves : SeesFolder S → SeesTime C → Origin → Faults → List Attempt → Line
      → {E : Type 0}
      → Result (List Reply) E → Serving S C → Serving S C → Type 0
  Serves sees ticks origin faults attempts line (Ok replies) old new =
      IsServed sees ticks origin faults attempts line replies old new
  Serves sees ticks origin faults attempts line (Err e) old new =
      EndsAt sees origin faults attempts line old new
