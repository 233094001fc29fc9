-- A refusal is the session's own, or else a limit.
use Rattle.std.proofs.Common.{◌≡◌, ℕ, Bool, true, false, cond, not, ◌&&◌, Some, None, Option, refl}
use Rattle.dv_model.specs.Sessions.{group_of, is_select, is_write, limit_of, missing_number, refusal_of}
use Rattle.std.specs.Option.{option_or}
use Rattle.dv_answer.specs.Refusing.{own_refusal}
use Rattle.dv_answer.specs.Laws.{RefusalGoesOn}

pub refusal_goes_on : RefusalGoesOn
refusal_goes_on x c m rotates mark guid = by_test (not x.selected && not (is_select c)) refl (missing_number c x.view) refl
  where
    by_test : (b : Bool) → (not x.selected && not (is_select c)) ≡ b → (o : Option ℕ) → missing_number c x.view ≡ o
        → refusal_of x c m rotates mark guid ≡ option_or (own_refusal x c) (cond (is_write c) (limit_of c m rotates mark (group_of c x.view m guid)) None)
    by_test true e o f = rw e refl
    by_test false e (Some n) f = rw (e, f) refl
    by_test false e None f = rw (e, f) refl
