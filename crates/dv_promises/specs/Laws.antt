-- What holds in each world that good events lead to.
use Rattle.std.specs.Prelude.{◌≡◌, ◌⊎◌, ℕ, ◌+◌, ◌<◌, ◌≤◌, List, All, AllPairs, Some}
use Rattle.dv_model.specs.declared.types.Command.{Command}
use Rattle.dv_model.specs.declared.types.Mailbox.{Mailbox}
use Rattle.dv_model.specs.declared.types.Mark.{Mark}
use Rattle.dv_model.specs.declared.types.Reply.{Reply}
use Rattle.dv_model.specs.Journals.{Log, HasResets, at}
use Rattle.dv_model.specs.Mailboxes.{IsValid}
use Rattle.dv_model.specs.Transcripts.{Speaks}
use Rattle.dv_interleavings.specs.Promises.{CrashKeeps, GoesOn, Holds}
use Rattle.dv_interleavings.specs.Worlds.{World, Session, Event, Tell, Stored, all_happen, happens, new_world}
use Rattle.dv_promises.specs.Standing.{IsGoodEvent, IsStart, Stands}

-- ---- the invariant

-- a world that begins with a valid mailbox stands, whatever its messages
abbrev pub BeginsStanding : Type 0
BeginsStanding = (start : Mailbox) (indexid : ℕ) (mark : Mark) (stored : List Stored)
    → IsStart start indexid mark stored → Stands (new_world start indexid mark stored)

-- each good event keeps what stands
abbrev pub EventsKeep : Type 0
EventsKeep = (w : World) (event : Event) → Stands w → IsGoodEvent event → Stands (happens w event)

-- so do good events in turn
abbrev pub AllEventsKeep : Type 0
AllEventsKeep = (w : World) (events : List Event)
    → Stands w → All IsGoodEvent events → Stands (all_happen w events)

-- in a world that stands each prefix of the log has a valid mailbox with reset numbers of 32 bits
abbrev pub PrefixesAreValid : Type 0
PrefixesAreValid = (w : World) (k : ℕ) (m : Mailbox)
    → Stands w → at w.log k ≡ Some m → IsValid m × HasResets m

-- ---- the promises

-- a world that stands keeps the promises
abbrev pub StandingHolds : Type 0
StandingHolds = (w : World) → Stands w → Holds w

-- each world that good events lead to from a new one keeps them
abbrev pub AllHold : Type 0
AllHold = (start : Mailbox) (indexid : ℕ) (mark : Mark) (stored : List Stored) (events : List Event)
    → IsStart start indexid mark stored → All IsGoodEvent events
    → Holds (all_happen (new_world start indexid mark stored) events)

-- each turn of a transcript writes behind the entries of the turns before it, so no entry is
-- written twice
abbrev pub WritesAreDistinct : Type 0
WritesAreDistinct = (log : Log) (base author : ℕ)
    (commands : List Command) (replies : List (List Reply))
    (speaks : Speaks log base author commands replies)
    → AllPairs (λ one later. one.behind ≡ one.met + 1 → one.met < later.met) speaks.turns

-- ---- from one world to the next

-- no event takes an entry away, or changes a mailbox or a message that was given out
abbrev pub LogsGoOn : Type 0
LogsGoOn = (w : World) (event : Event) → Stands w → GoesOn w.log (happens w event).log

-- nor do good events in turn
abbrev pub AllGoOn : Type 0
AllGoOn = (w : World) (events : List Event)
    → Stands w → All IsGoodEvent events → GoesOn w.log (all_happen w events).log

-- a session is answered at the end of what it has seen
abbrev pub AnswersAreAsSeen : Type 0
AnswersAreAsSeen = (w : World) (s : ℕ) (c : Command) (session after : Session) → Stands w
    → w.sessions s ≡ Some session
    → (happens w (Tell s c)).sessions s ≡ Some after
    → (after ≡ session) ⊎ ((after.seen ≡ session.seen) × (after.state.told ≡ session.seen))

-- it never sees less than before
abbrev pub SeenRises : Type 0
SeenRises = (w : World) (event : Event) (s : ℕ) (session after : Session) → Stands w
    → w.sessions s ≡ Some session
    → (happens w event).sessions s ≡ Some after
    → session.seen ≤ after.seen

-- ---- crashes

-- a crash of a world that stands keeps each durable entry, and the replies before it
abbrev pub StandingCrashKeeps : Type 0
StandingCrashKeeps = (w : World) (n : ℕ) → Stands w → CrashKeeps w n

-- so does a crash of each world that good events lead to
abbrev pub AllCrashesKeep : Type 0
AllCrashesKeep = (start : Mailbox) (indexid : ℕ) (mark : Mark) (stored : List Stored)
    (events : List Event) (n : ℕ)
    → IsStart start indexid mark stored → All IsGoodEvent events
    → CrashKeeps (all_happen (new_world start indexid mark stored) events) n
