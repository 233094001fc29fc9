-- A result beside the replies that were taken.
use Rattle.std.proofs.Common.{◌≡◌, List, Result, Ok, Err, ap}
use Rattle.std.specs.Prelude.{IfOk, OnErr, OnOk}
use Rattle.dv_model.specs.declared.types.Reply.{Reply}
use Rattle.dv_model.specs.Sessions.{Answer, State}
use Rattle.dv_serving.specs.Taking.{given}

module _ {E : Type 0} where
  -- what holds of the replies
  pub given_has : (P : List Reply → Type 0) (replies : List Reply) (result : Result (Unit {0}) E) → OnOk result (P replies) → IfOk (given replies result) P
  given_has P replies (Ok done) has = has
  given_has P replies (Err e) has = tt

  -- what holds behind an error
  pub given_err : (P : Type 0) (replies : List Reply) (result : Result (Unit {0}) E) → OnErr result P → OnErr (given replies result) P
  given_err P replies (Ok done) has = tt
  given_err P replies (Err e) has = has

  -- the replies of an answer, with the session behind it
  pub given_answer : (P : Type 0) (a : Answer) (next : State) (result : Result (Unit {0}) E) → OnOk result (P × (next ≡ a.next))
      → IfOk (given a.replies result) (λ replies. record { replies = replies; next = next } ≡ a)
  given_answer P a next (Ok done) both = ap (λ (x : State). record { replies = a.replies; next = x }) both.1
  given_answer P a next (Err e) both = tt

  -- a line that is there
  pub always : {P : Type 0} (result : Result (Unit {0}) E) → P → OnOk result P
  always (Ok done) p = p
  always (Err e) p = tt
