-- What follows from what stands.
use Rattle.std.proofs.Common.{◌≡◌, ℕ, ◌+◌, ◌<◌, ◌≤◌, true, List, [], ◌∷◌, ◌++◌, length, map, get_or, take, Option, Some, None, refl, sym, ◌∙◌, ap, arith}
use Rattle.std.specs.Prelude.{AllPairs, IfSome}
use Rattle.dv_model.specs.Transcripts.{Speaks}
use Rattle.std.proofs.lemmas.List.{map-append, take_more}
use Rattle.std.proofs.lemmas.List.Elements.{All-nil}
use Rattle.dv_model.specs.Mailboxes.{empty_mailbox}
use Rattle.dv_validity.proofs.Beginnings.{begun_valid}
use Rattle.dv_interleavings.specs.Promises.{AreEqualWhereTold, AreInOrder, HoldsOf, IsShown, IsSpoken, NumbersStay, commands_of, replies_of}
use Rattle.dv_interleavings.specs.Worlds.{World, Session, Event, happens, all_happen}
use Rattle.dv_promises.specs.Standing.{IsStart, Stands}
use Rattle.dv_promises.proofs.Crashing.{crash_keeps}
use Rattle.dv_promises.proofs.Ending.{begins}
use Rattle.dv_promises.proofs.Holding.{holds}
use Rattle.dv_promises.proofs.Once.{writes_are_distinct}
use Rattle.dv_promises.proofs.Seeing.{seen_rises}
use Rattle.dv_promises.proofs.Small.{if_some}
use Rattle.dv_world.specs.declared.event.Event.{Event as Given}
use Rattle.dv_world.specs.Promising.{AreAlike, AreHeard, AreOrdered, AreSpoken, CrashesKeep, KeepNumbers, SeeNoLess, WriteOnce, first_world, world_behind}
use Rattle.dv_world.specs.Shapes.{event_of}

by_some : {X : Type 0} (P : X → Type 0) (o : Option X) → ((x : X) → o ≡ Some x → P x) → IfSome o P
by_some P None each = tt
by_some P (Some x) each = each x refl

module _ (w : World) (stands : Stands w) where
  -- of each session
  each_of : (P : ℕ → Session → Type 0) → ((s : ℕ) (session : Session) → HoldsOf w s session → P s session) → (s : ℕ) → IfSome (w.sessions s) (P s)
  each_of P weaker s = if_some (HoldsOf w s) (P s) (w.sessions s) (weaker s) ((holds w stands).each s)

  pub spoken : AreSpoken w
  spoken = each_of (IsSpoken w) (λ s session held. held.spoken)

  pub ordered : AreOrdered w
  ordered = each_of (λ s session. AreInOrder w session) (λ s session held. held.order)

  pub heard : AreHeard w
  heard = each_of (λ s session. session.state.selected ≡ true → IsShown w session) (λ s session held. held.shown)

  pub numbers : KeepNumbers w
  numbers = each_of (λ s session. NumbersStay session) (λ s session held. held.numbers)

  pub no_less : SeeNoLess w
  no_less s = by_some (λ (session : Session). (event : Event) → IfSome ((happens w event).sessions s) (λ after. session.seen ≤ after.seen)) (w.sessions s) (λ session is. λ event. by_some (λ (after : Session). session.seen ≤ after.seen) ((happens w event).sessions s) (λ after there. seen_rises w event s session after stands is there))

  pub once : WriteOnce w
  once s = by_some (λ (session : Session). (speaks : Speaks w.log 0 s (commands_of session) (replies_of session))
      → AllPairs (λ one later. one.behind ≡ one.met + 1 → one.met < later.met) speaks.turns) (w.sessions s) (λ session is. λ speaks. writes_are_distinct w.log 0 s (commands_of session) (replies_of session) speaks)

  pub alike : AreAlike w
  alike s = both (w.sessions s) (λ t. (holds w stands).equal s t)
    where
      both : (o : Option Session) → ((t : ℕ) → IfSome o (λ one. IfSome (w.sessions t) (λ other. AreEqualWhereTold one other))) → IfSome o (λ one. (t : ℕ) → IfSome (w.sessions t) (AreEqualWhereTold one))
      both None each = tt
      both (Some one) each = each

  pub crash : CrashesKeep w
  crash n = crash_keeps w n stands

-- ---- a new folder

pub first_start : IsStart (record (empty_mailbox 1000) { highest = 2 }) 1000 (record { file_seq = 1; offset = 56 }) []
first_start = record { mailbox = (begun_valid 1000 2 (omega arith) (omega arith), All-nil _); numbers = (omega arith, omega arith, omega arith); guids = All-nil _ }

pub first_stands : Stands first_world
first_stands = begins (record (empty_mailbox 1000) { highest = 2 }) 1000 (record { file_seq = 1; offset = 56 }) [] first_start

-- one event more
pub one_more : (w : World) (events : List Event) (e : Event) → all_happen w (events ++ e ∷ []) ≡ happens (all_happen w events) e
one_more w [] e = refl
one_more w (event ∷ events) e = one_more (happens w event) events e

pub world_more : (events : List Given) (i : ℕ) (e : Given) → i < length events → e ≡ get_or events i e → world_behind (take (i + 1) events) ≡ happens (world_behind (take i events)) (event_of e)
world_more events i e less is =
    ap world_behind (take_more events i e less ∙ ap (λ (x : Given). take i events ++ x ∷ []) (sym is))
    ∙ ap (all_happen first_world) (map-append event_of (take i events) (e ∷ []))
    ∙ one_more first_world (map event_of (take i events)) (event_of e)
