-- One group is written, or none.
use Rattle.std.proofs.Common.{◌≡◌, ◌⊎◌, inl, inr, ⊎_elim, ℕ, ◌+◌, ◌≤◌, List, [], ◌∷◌, length, Some, Result, Ok, Err, refl, sym, ◌∙◌, ap, subst, arith}
use Rattle.dv_model.specs.declared.types.Mailbox.{Mailbox}
use Rattle.dv_model.specs.declared.types.Record.{Record}
use Rattle.dv_model.specs.Effects.{applied}
use Rattle.dv_answer.specs.Following.{Follower, Leads}
use Rattle.dv_serving.proofs.Committing.{some_there}
use Rattle.dv_serial.specs.Serves.{Grows, HasNoGroup, HasOneGroup, OnlyLooksAt, seat_at, with_seat}
use Rattle.dv_serial.specs.Servings.{Serving}
use Rattle.dv_serial.proofs.Looking.{looked_mailbox}

-- records of which there is none leave the mailbox
pub none_given : (m n : Mailbox) (records : List Record) → records ≡ [] → applied m records ≡ Some n → n ≡ m
none_given m n records none gives =
    let still : Some m ≡ Some n = ap (λ (rs : List Record). applied m rs) (sym none) ∙ gives in
    cc

module _ {S C : Type 0} where
  abbrev pub MayGrow : Serving S C → Serving S C → List ℕ → Type 0
  MayGrow old new touched = HasNoGroup old new ⊎ HasOneGroup old new touched

  pub grown_few : {E : Type 0} (old new : Serving S C) (touched : List ℕ) (result : Result (Unit {0}) E) → Grows old new touched result → new.groups ≤ old.groups + 1
  grown_few old new touched (Ok done) grows = ⊎_elim (λ none. omega (arith, none.groups)) (λ one. omega (arith, one.groups)) grows
  grown_few old new touched (Err e) few = few

  pub grows_so : {E : Type 0} (old new : Serving S C) (touched : List ℕ) (result : Result (Unit {0}) E) → MayGrow old new touched → Grows old new touched result
  grows_so old new touched (Ok done) may = may
  grows_so old new touched (Err e) may = ⊎_elim (λ none. omega (arith, none.groups)) (λ one. omega (arith, one.groups)) may

  -- where only the folder was read
  pub looked_none : (old mid : Serving S C) → OnlyLooksAt old mid → HasNoGroup old mid
  looked_none old mid looks = record { mailbox = looked_mailbox old mid looks; groups = looks.groups }

  -- sessions that are told, and one that answers, change neither mailbox nor groups
  pub answered_none : (at : ℕ) (old mid new : Serving S C) (seats : List Follower) → with_seat at (seat_at new.seats at) (record mid { seats = seats }) ≡ new → HasNoGroup old mid → HasNoGroup old new
  answered_none at old mid new seats only none = subst (λ (s : Serving S C). HasNoGroup old s) only (record { mailbox = none.mailbox; groups = none.groups })

  pub answered_grows : (at : ℕ) (old mid new : Serving S C) (seats : List Follower) (touched : List ℕ) → with_seat at (seat_at new.seats at) (record mid { seats = seats }) ≡ new → MayGrow old mid touched
      → MayGrow old new touched
  answered_grows at old mid new seats touched only may =
      ⊎_elim (λ none. inl (answered_none at old mid new seats only none))
      (λ one. inr (subst (λ (s : Serving S C). HasOneGroup old s touched) only
      (record { records = one.records; some = one.some; gives = one.gives; leads = one.leads; groups = one.groups }))) may
