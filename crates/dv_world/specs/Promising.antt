-- What is promised of a world that events lead to.
use Rattle.std.specs.Prelude.{◌≡◌, ℕ, ◌+◌, ◌<◌, ◌≤◌, true, List, [], map, AllPairs, IfSome}
use Rattle.dv_model.specs.Mailboxes.{empty_mailbox}
use Rattle.dv_model.specs.Transcripts.{Speaks}
use Rattle.dv_interleavings.specs.Worlds.{World, Session, Event, happens, new_world, all_happen}
use Rattle.dv_interleavings.specs.Promises.{AreEqualWhereTold, AreInOrder, CrashKeeps, IsShown, IsSpoken, NumbersStay, commands_of, replies_of}
use Rattle.dv_world.specs.declared.event.Event.{Event as Given}
use Rattle.dv_world.specs.Shapes.{event_of}

-- the world of a new folder
abbrev pub first_world : World
first_world = new_world (record (empty_mailbox 1000) { highest = 2 }) 1000 (record { file_seq = 1; offset = 56 }) []

-- what comes of these events in turn
abbrev pub world_behind : List Given → World
world_behind events = all_happen first_world (map event_of events)

-- so it is for each live session
abbrev pub OfEach : World → (World → ℕ → Session → Type 0) → Type 0
OfEach w P = (s : ℕ) → IfSome (w.sessions s) (P w s)

-- its replies and its state are those of its transcript over the one log
abbrev pub AreSpoken : World → Type 0
AreSpoken w = OfEach w IsSpoken

-- it is told of no more than it has seen, and sees no more than is durable
abbrev pub AreOrdered : World → Type 0
AreOrdered w = OfEach w (λ w s session. AreInOrder w session)

-- none sees less by any event
abbrev pub SeeNoLess : World → Type 0
SeeNoLess w = OfEach w (λ w s session. (event : Event) → IfSome ((happens w event).sessions s) (λ after. session.seen ≤ after.seen))

-- each turn writes behind the entries of those before it, so no successful write is there twice
abbrev pub WriteOnce : World → Type 0
WriteOnce w = OfEach w (λ w s session. (speaks : Speaks w.log 0 s (commands_of session) (replies_of session))
    → AllPairs (λ one later. one.behind ≡ one.met + 1 → one.met < later.met) speaks.turns)

-- where two are told by Full steps up to one position, their views are equal
abbrev pub AreAlike : World → Type 0
AreAlike w = OfEach w (λ w s one. (t : ℕ) → IfSome (w.sessions t) (AreEqualWhereTold one))

-- a client that listened has the view, in which each row of the mailbox is
abbrev pub AreHeard : World → Type 0
AreHeard w = OfEach w (λ w s session. session.state.selected ≡ true → IsShown w session)

-- numbers keep their UIDs
abbrev pub KeepNumbers : World → Type 0
KeepNumbers w = OfEach w (λ w s session. NumbersStay session)

-- a crash keeps each durable entry and at most the pending one
abbrev pub CrashesKeep : World → Type 0
CrashesKeep w = (n : ℕ) → CrashKeeps w n
