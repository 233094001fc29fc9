-- What becomes of a command whose replies are taken while it is served.
use Rattle.std.specs.Prelude.{◌≡◌, List, OnOk, Result, Ok, Err}
use Rattle.dv_model.specs.declared.types.Reply.{Reply}

-- the result with the replies that were taken
abbrev pub given : {E : Type 0} → List Reply → Result (Unit {0}) E → Result (List Reply) E
given replies (Ok done) = Ok replies
given replies (Err e) = Err e

-- Where there is no error some replies were taken, where `with` says what is there with more; and
-- this holds of the result with them.
pub record Takes {R E : Type 0} (with : R → List Reply → R) (old new : R)
    (result : Result (Unit {0}) E) (P : Result (List Reply) E → Type 0) : Type 0 where
  pub replies : List Reply
  pub taken : OnOk result (new ≡ with old replies)
  pub holds : P (given replies result)
