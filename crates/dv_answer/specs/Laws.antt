-- What holds of sessions that follow a mailbox.
use Rattle.std.specs.Prelude.{◌≡◌, ◌↔◌, ◌⊎◌, ℕ, Bool, List, [], Contains, None, Some, if◌then◌else◌}
use Rattle.std.specs.List.Sorted.{IsStrictlyIncreasing}
use Rattle.std.specs.Option.{option_or}
use Rattle.dv_model.specs.declared.types.Command.{Command}
use Rattle.dv_model.specs.declared.types.Mailbox.{Mailbox}
use Rattle.dv_model.specs.declared.types.Mark.{Mark}
use Rattle.dv_model.specs.declared.types.Record.{Record}
use Rattle.dv_model.specs.declared.types.Step.{Step}
use Rattle.dv_model.specs.declared.types.Step.TheVariants.{Full}
use Rattle.dv_model.specs.Effects.{applied}
use Rattle.dv_model.specs.Fresh.{IsTouched}
use Rattle.dv_model.specs.Mailboxes.{IsValid}
use Rattle.dv_model.specs.Sessions.{State, group_of, is_write, limit_of, refusal_of}
use Rattle.dv_model.specs.Views.{View, empty_view, moved}
use Rattle.dv_answer.specs.Following.{Leads, Tracks, untold}
use Rattle.dv_answer.specs.Refusing.{own_refusal}

-- ---- following a mailbox

-- a session that is shown the whole mailbox tracks it with no UID touched
abbrev pub SelectTracks : Type 0
SelectTracks = (m : Mailbox) → IsValid m → Tracks m (moved Full empty_view m) []

-- one that tracks the mailbox tracks what becomes of it, with the UIDs of both
abbrev pub TouchTracks : Type 0
TouchTracks = (old new : Mailbox) (view : View) (before more all : List ℕ)
    → Tracks old view before → Leads old new more
    → IsStrictlyIncreasing all → ((uid : ℕ) → Contains all uid ↔ (Contains before uid ⊎ Contains more uid))
    → Tracks new view all

-- it tracks the mailbox behind a move, with the UIDs of which it wasn't told
abbrev pub MoveTracks : Type 0
MoveTracks = (step : Step) (m : Mailbox) (view : View) (touched : List ℕ)
    → IsValid m → Tracks m view touched → Tracks m (moved step view m) (untold m (moved step view m) touched)

-- a Full step tells of all
abbrev pub FullTellsAll : Type 0
FullTellsAll = (m : Mailbox) (view : View) (touched : List ℕ) → untold m (moved Full view m) touched ≡ []

-- ---- what becomes of a mailbox

-- nothing
abbrev pub StayLeads : Type 0
StayLeads = (m : Mailbox) → IsValid m → Leads m m []

-- records in turn, with the UIDs that they touch beside those before
abbrev pub RecordsLead : Type 0
RecordsLead = (first old new : Mailbox) (rs : List Record) (before all : List ℕ)
    → IsValid old → IsValid new → Leads first old before → applied old rs ≡ Some new
    → ((uid : ℕ) → Contains all uid ↔ (Contains before uid ⊎ IsTouched old new uid))
    → Leads first new all

-- ---- refusals

-- the session's own refusal is the first, and then a write may come upon a limit
abbrev pub RefusalGoesOn : Type 0
RefusalGoesOn = (x : State) (c : Command) (m : Mailbox) (rotates : Bool) (mark : Mark) (guid : ℕ → List ℕ)
    → refusal_of x c m rotates mark guid
    ≡ option_or (own_refusal x c) (if is_write c then limit_of c m rotates mark (group_of c x.view m guid) else None)
