-- Sessions beside one another have the states of the play, and keep up with the mailbox.
use Rattle.std.proofs.Common.{◌≡◌, ◌≢◌, ℕ, ◌+◌, ◌<◌, Bool, true, false, cond, List, length, get_or, nat_eq, refl, sym, ◌∙◌, ap, arith, get_or-set_other, get_or-set_same, length-set}
use Rattle.std.specs.Prelude.{All, slice_set}
use Rattle.std.proofs.lemmas.Bool.{eqb-true}
use Rattle.std.proofs.lemmas.Bool.Decides.{nat_tests}
use Rattle.std.proofs.lemmas.List.{get_or_default}
use Rattle.std.proofs.lemmas.List.Elements.{All-get_or, All-set}
use Rattle.dv_model.specs.declared.types.Mailbox.{Mailbox}
use Rattle.dv_model.specs.Sessions.{State}
use Rattle.dv_model.specs.Transcripts.{with_state}
use Rattle.dv_answer.specs.Following.{Follower, IsAbreast, new_follower}
use Rattle.dv_serial.specs.Following.{AreSeated, HasStates}
use Rattle.dv_serial.specs.Serves.{seat_at}

-- the one at a place keeps up with the mailbox
pub abreast_at : (m : Mailbox) (seats : List Follower) (at : ℕ) → at < length seats → All (IsAbreast m) seats → IsAbreast m (seat_at seats at)
abreast_at m seats at less all = All-get_or (IsAbreast m) seats at new_follower less all

-- one of them may be another that does
pub abreast_with : (m : Mailbox) (seats : List Follower) (at : ℕ) (f : Follower) → All (IsAbreast m) seats → IsAbreast m f → All (IsAbreast m) (slice_set seats at f)
abreast_with m seats at f all good = All-set (IsAbreast m) seats at f good all

module _ (m : Mailbox) (states : ℕ → State) (seats : List Follower) (is : AreSeated m states seats) where
  -- the play's state is that of the session at its place
  pub state_at : (at : ℕ) → at < length seats → (seat_at seats at).state ≡ states (at + 1)
  state_at at less = is.states at new_follower less

  -- one of them is another
  pub seated_with : (at : ℕ) (f : Follower) → at < length seats → IsAbreast m f → AreSeated m (with_state states (at + 1) f.state) (slice_set seats at f)
  seated_with at f less good = record {
    abreast = abreast_with m seats at f is.abreast good;
    states = λ k d inside. by_test k d (omega (arith, inside, length-set seats at f)) (nat_eq (at + 1) (k + 1)) refl;
  }
    where
      by_test : (k : ℕ) (d : Follower) → k < length seats → (b : Bool) → nat_eq (at + 1) (k + 1) ≡ b → (get_or (slice_set seats at f) k d).state ≡ cond b f.state (states (k + 1))
      by_test k d inside true e =
          let same : at ≡ k = omega (arith, eqb-true (at + 1) (k + 1) e) in
          ap (λ (n : ℕ). (get_or (slice_set seats at f) n d).state) (sym same) ∙ ap (λ (g : Follower). g.state) (get_or-set_same seats at f d less)
      by_test k d inside false e =
          let other : k ≢ at = grind (arith, nat_tests) in
          ap (λ (g : Follower). g.state) (get_or-set_other seats at k f d other) ∙ is.states k d inside

  -- they have their states when they were told of a mailbox
  pub seated_told : (new : Mailbox) (now : List Follower) → HasStates seats now → All (IsAbreast new) now → AreSeated new states now
  seated_told new now has all = record {
    abreast = all;
    states = λ k f inside. let less : k < length seats = omega (arith, inside, has.count) in has.states k f less ∙ is.states k f less;
  }

-- ---- the same states

pub states_refl : (seats : List Follower) → HasStates seats seats
states_refl seats = record { count = refl; states = λ k f inside. refl }

-- one that has its state is written over one
pub states_set : (before now : List Follower) (at : ℕ) (f g : Follower) → HasStates before now → at < length now → g.state ≡ (get_or now at f).state → HasStates before (slice_set now at g)
states_set before now at f g has less same = record {
  count = length-set now at g ∙ has.count;
  states = λ k d inside. by_test k d inside (nat_eq at k) refl;
}
  where
    by_test : (k : ℕ) (d : Follower) → k < length before → (b : Bool) → nat_eq at k ≡ b → (get_or (slice_set now at g) k d).state ≡ (get_or before k d).state
    by_test k d inside true e =
        let here : at ≡ k = eqb-true at k e in
        ap (λ (n : ℕ). (get_or (slice_set now at g) n d).state) (sym here)
        ∙ ap (λ (h : Follower). h.state) (get_or-set_same now at g d less)
        ∙ same
        ∙ ap (λ (h : Follower). h.state) (get_or_default now at f d less)
        ∙ has.states at d (omega (arith, less, has.count))
        ∙ ap (λ (n : ℕ). (get_or before n d).state) here
    by_test k d inside false e =
        let other : k ≢ at = grind (arith, nat_tests) in
        ap (λ (h : Follower). h.state) (get_or-set_other now at k g d other) ∙ has.states k d inside
