use Rattle.std.proofs.Common.{◌↔◌, ℕ, List, subst, sym}
use Rattle.std.specs.Prelude.{Contains}
use Rattle.dv_model.specs.declared.types.Row.{Row}
use Rattle.dv_rows.specs.Parted.{HasUid}
use Rattle.dv_touched.specs.Telling.{Differs}
use Rattle.dv_apply.proofs.Readying.{if_ok, touched_in_either}
use Rattle.dv_apply.proofs.prepare.find_touched.Goals as goal

pub returns : goal.returns
returns c =
    if_ok c.with.result _ _ c.with.ensures.all (λ all is uid.
    touched_in_either (is uid) (c.in_ok-touched.ensures uid)
    (subst (λ (uids : List ℕ). Contains c.in_ok-more.more uid ↔ (Contains uids uid × Differs c.args.before.now.rows c.args.behind.now.rows uid)) c.deref.ensures.value (c.in_ok-more.ensures uid))
    (λ h. subst (λ (rows : List Row). HasUid rows uid) c.as_slice.ensures (c.in_ok-others.ensures.of_rows uid h))
    (λ h. c.in_ok-others.ensures.all uid (subst (λ (rows : List Row). HasUid rows uid) (sym c.as_slice.ensures) h)))
