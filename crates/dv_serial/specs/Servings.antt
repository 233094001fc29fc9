-- What contracts see of the sessions of a script.
use Rattle.std.specs.Prelude.{ℕ, List, refl}
use Rattle.std.specs.Coded.{Coded, code_by, coded×}
use Rattle.dv_answer.specs.Following.{Follower}
use Rattle.dv_store.specs.States.{State}

-- the folder with its mailbox and the clock, the sessions from number 1 on, and how many groups
-- were written
pub record Serving (S C : Type 0) : Type 0 where
  pub store : State S C
  pub seats : List Follower
  pub groups : ℕ

-- it is stored as the tuple of its fields
abbrev pub serving_code : {S C : Type 0} → Coded (State S C) → Coded (List Follower) → Coded ℕ
    → Coded (Serving S C)
serving_code {S} {C} store seats groups =
    code_by (State S C × (List Follower × ℕ))
    (coded× store (coded× seats groups))
    (λ s. (s.store, (s.seats, s.groups)))
    (λ p. record { store = p.0; seats = p.1.0; groups = p.1.1 })
    (λ _. refl)

-- these sessions over a mailbox that was opened just now
abbrev pub serving_over : {S C : Type 0} → State S C → List Follower → Serving S C
serving_over store seats = record {
  store = store;
  seats = seats;
  groups = 0;
}
