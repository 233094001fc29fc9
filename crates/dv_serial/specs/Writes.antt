-- What becomes of a write that the session doesn't refuse.
use Rattle.std.specs.Prelude.{◌≡◌, ℕ, List, None, Some, Result, Ok, Err}
use Rattle.dv_model.specs.declared.types.Reply.{Reply}
use Rattle.dv_model.specs.declared.types.Reply.TheVariants as reply
use Rattle.dv_model.specs.Journals.{Log}
use Rattle.dv_model.specs.Transcripts.{Line}
use Rattle.dv_shelf.specs.Clocks.{behind}
use Rattle.dv_shelf.specs.Crashes.{LeavesOnly}
use Rattle.dv_shelf.specs.Folders.{Folder}
use Rattle.dv_logfile.specs.Settling.{StaysSettled}
use Rattle.dv_files.specs.Texts.{place_of}
use Rattle.dv_writing.specs.Debts.{Debt}
use Rattle.dv_answer.specs.Following.{Leads}
use Rattle.dv_plans.specs.declared.fault.StoreFault.{StoreFault}
use Rattle.dv_plans.specs.declared.fault.StoreFault.TheVariants as fault
use Rattle.dv_playing.specs.Playing.{Attempt, Failed, Play, Rotation, Served, behind_failure, refused_here, with_group_here}
use Rattle.dv_store.specs.Rest.{IsAtRest}
use Rattle.dv_serial.specs.Following.{IsAt, Leaves, with_line}
use Rattle.dv_serial.specs.Places.{GivesBetween, IsOwedBehind, play_of}
use Rattle.dv_serial.specs.Servings.{Serving}
use Rattle.dv_shelf.specs.Sees.{SeesFolder, SeesTime}

module _ {S C : Type 0} where
  -- The store, the number of groups and the clock are where this play stands, behind these lines,
  -- and a crash at any moment since leaves the log behind them, or behind the lines before. A
  -- settled folder is settled again, where no fault was counted.
  pub record StandsAs (sees : SeesFolder S) (ticks : SeesTime C) (clock : ℕ → ℕ) (start : Log)
      (before attempts : List Attempt) (play : Play) (old new : Serving S C) : Type 0 where
    pub at : IsAt play new
    pub debt : Debt
    pub owed : IsOwedBehind clock start attempts (place_of new.store.chain) debt
    pub rests : IsAtRest sees play.log debt new.store
    pub readings : ticks.tells → ticks.upcoming new.store.clock ≡ behind clock play.used
    pub since : LeavesOnly sees old.store.shelf new.store.shelf
        (GivesBetween clock start before attempts)
    pub settled : StaysSettled sees old.store.shelf new.store.shelf

  -- the group is written, or there is none; these are the UIDs of which sessions are to be told
  pub record IsDone (sees : SeesFolder S) (ticks : SeesTime C) (clock : ℕ → ℕ) (start : Log)
      (attempts : List Attempt) (line : Line) (touched : List ℕ) (old new : Serving S C)
      : Type 0 where
    pub allowed : refused_here (play_of clock start attempts) line ≡ None
    pub stands : StandsAs sees ticks clock start attempts
        (with_line attempts line Served)
        (with_group_here clock (play_of clock start attempts) line) old new
    pub leads : Leads old.store.chain.live.mailbox new.store.chain.live.mailbox touched

  -- the disk failed it
  pub record IsFailedBy (sees : SeesFolder S) (ticks : SeesTime C) (clock : ℕ → ℕ) (start : Log)
      (attempts : List Attempt) (line : Line) (faults : ℕ) (old new : Serving S C)
      : Type 0 where
    pub allowed : refused_here (play_of clock start attempts) line ≡ None
    pub mailbox : new.store.chain.live.mailbox ≡ old.store.chain.live.mailbox
    pub rotation : Rotation
    pub stands : StandsAs sees ticks clock start attempts
        (with_line attempts line (Failed faults rotation))
        (behind_failure (play_of clock start attempts) line rotation) old new

  -- a limit refused it
  pub record IsRefusedBy (sees : SeesFolder S) (ticks : SeesTime C) (clock : ℕ → ℕ) (start : Log)
      (attempts : List Attempt) (line : Line) (limit : Reply) (old new : Serving S C)
      : Type 0 where
    pub refused : refused_here (play_of clock start attempts) line ≡ Some limit
    pub mailbox : new.store.chain.live.mailbox ≡ old.store.chain.live.mailbox
    pub stands : StandsAs sees ticks clock start attempts attempts
        (play_of clock start attempts) old new

  -- what came of it
  abbrev pub Commits : SeesFolder S
      → SeesTime C → (ℕ → ℕ) → Log → List Attempt → Line → Serving S C
      → Result (List ℕ) StoreFault → Serving S C → Type 0
  Commits sees ticks clock start attempts line old
      (Ok touched) new =
      IsDone sees ticks clock start attempts line touched old new
  Commits sees ticks clock start attempts line old
      (Err (fault.Disk faults)) new =
      IsFailedBy sees ticks clock start attempts line faults old new
  Commits sees ticks clock start attempts line old
      (Err fault.UidsUsedUp) new =
      IsRefusedBy sees ticks clock start attempts line
      reply.UidsUsedUp old new
  Commits sees ticks clock start attempts line old
      (Err (fault.TooLong bytes)) new =
      IsRefusedBy sees ticks clock start attempts line
      (reply.TooLong bytes) old new
  Commits sees ticks clock start attempts line old
      (Err fault.NoMemory) new =
      Leaves sees clock start attempts attempts old new
