-- What is looked up is met and supplied where the session stands.
use Rattle.std.proofs.Common.{◌≡◌, ℕ, ◌++◌, Bool, true, false, List, take, drop, length, Result, Ok, Err, refl, sym, ◌∙◌, ap, subst, length-set}
use Rattle.std.specs.Prelude.{All, OnOk}
use Rattle.std.proofs.lemmas.List.{take_at}
use Rattle.dv_model.specs.declared.types.Command.{Command}
use Rattle.dv_model.specs.declared.types.Command.TheVariants as command
use Rattle.dv_model.specs.declared.types.Mailbox.{Mailbox}
use Rattle.dv_model.specs.Journals.{Log, Mail}
use Rattle.dv_model.specs.Sessions.{State as SessionState, is_write, reads_mail}
use Rattle.dv_model.specs.Views.{View}
use Rattle.dv_shelf.specs.Folders.{Folder}
use Rattle.dv_shelf.proofs.Moments.{started}
use Rattle.dv_chain.specs.declared.chain.Chain.{Chain}
use Rattle.dv_writing.specs.Debts.{Debt}
use Rattle.dv_lookups.specs.Founds.{AreMessages}
use Rattle.dv_responses.specs.Met.{met_of}
use Rattle.dv_responses.specs.Supplied.{AreSupplied}
use Rattle.dv_responses.specs.declared.meeting.Met.{Met}
use Rattle.dv_search.specs.declared.facts.MailFacts.{MailFacts}
use Rattle.dv_answer.specs.Following.{Follower, IsAbreast}
use Rattle.dv_store.specs.Rest.{IsAtRest, OnlyReads, RestKnows}
use Rattle.dv_store.specs.States.{State}
use Rattle.dv_store.proofs.Known.{rest_knows}
use Rattle.dv_serial.specs.Following.{HasStates}
use Rattle.dv_serial.specs.Serves.{AreAbreast, OnlyLooksAt, seat_at, with_seat}
use Rattle.dv_serial.specs.Servings.{Serving}
use Rattle.dv_serial.proofs.Seated.{abreast_with}
use Rattle.dv_shelf.specs.Sees.{SeesFolder}

-- ---- where only the folder was read

module _ {S C : Type 0} (old mid : Serving S C) (looks : OnlyLooksAt old mid) where
  pub looked_mailbox : mid.store.chain.live.mailbox ≡ old.store.chain.live.mailbox
  looked_mailbox = ap (λ (x : Chain). x.live.mailbox) looks.store.chain

  pub looked_met : (c : Command) (x : SessionState) (met : Met) → met ≡ met_of c x.view mid.store.chain.live.mailbox → met ≡ met_of c x.view old.store.chain.live.mailbox
  looked_met c x met is = is ∙ ap (λ (m : Mailbox). met_of c x.view m) looked_mailbox

  -- what holds of a session's view and the mailbox holds then
  pub looked_same : (P : View → Mailbox → Type 0) (at : ℕ) → P (seat_at old.seats at).state.view old.store.chain.live.mailbox → P (seat_at mid.seats at).state.view mid.store.chain.live.mailbox
  looked_same P at is =
      subst (P (seat_at mid.seats at).state.view) (sym looked_mailbox) (subst (λ (fs : List Follower). P (seat_at fs at).state.view old.store.chain.live.mailbox) (sym looks.seats) is)

  pub looked_abreast : AreAbreast old → AreAbreast mid
  looked_abreast all =
      subst (λ (m : Mailbox). All (IsAbreast m) mid.seats) (sym looked_mailbox) (subst (λ (fs : List Follower). All (IsAbreast old.store.chain.live.mailbox) fs) (sym looks.seats) all)

-- ---- one session answered

module _ {S C : Type 0} (at : ℕ) (mid new : Serving S C) (only : with_seat at (seat_at new.seats at) mid ≡ new) where
  -- the sessions keep up with the mailbox
  pub answered_abreast : AreAbreast mid → IsAbreast new.store.chain.live.mailbox (seat_at new.seats at) → AreAbreast new
  answered_abreast all abreast =
      subst (λ (s : Serving S C). AreAbreast s) only
      (abreast_with mid.store.chain.live.mailbox mid.seats at (seat_at new.seats at) all (subst (λ (s : Serving S C). IsAbreast s.store.chain.live.mailbox (seat_at new.seats at)) (sym only) abreast))

-- as many sessions are there, and the clock isn't read
pub answered_stays : {S C : Type 0} (at : ℕ) (old mid new : Serving S C) → OnlyLooksAt old mid → with_seat at (seat_at new.seats at) mid ≡ new → (length new.seats ≡ length old.seats) × (new.store.clock ≡ old.store.clock)
answered_stays {S} {C} at old mid new looks only = (
  ap (λ (s : Serving S C). length s.seats) (sym only) ∙ length-set mid.seats at (seat_at new.seats at) ∙ ap (λ (fs : List Follower). length fs) looks.seats,
  ap (λ (s : Serving S C). s.store.clock) (sym only) ∙ looks.store.clock,
)

-- ---- sessions that were told

module _ (before items slice now : List Follower) (len : ℕ) (same : slice ≡ before) (many : length slice ≡ len) (has : HasStates slice now) where
  -- those that are written back
  abbrev pub back : List Follower
  back = take len (now ++ drop (length now) items)

  back_is : back ≡ now
  back_is = take_at now (drop (length now) items) len (has.count ∙ many)

  pub told_states : HasStates before back
  told_states = subst (λ (fs : List Follower). HasStates before fs) (sym back_is) (subst (λ (fs : List Follower). HasStates fs now) same has)

  pub told_abreast : (m n : Mailbox) → All (IsAbreast m) before → (All (IsAbreast m) slice → All (IsAbreast n) now) → All (IsAbreast n) back
  told_abreast m n all told =
      subst (λ (fs : List Follower). All (IsAbreast n) fs) (sym back_is) (told (subst (λ (fs : List Follower). All (IsAbreast m) fs) (sym same) all))
