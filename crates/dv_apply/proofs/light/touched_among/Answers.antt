use Rattle.std.proofs.Common.{◌↔◌, ℕ, List, ap, subst}
use Rattle.std.specs.Prelude.{Contains}
use Rattle.dv_model.specs.declared.types.Row.{Row}
use Rattle.dv_rows.specs.Parted.{is_parted}
use Rattle.dv_touched.specs.Telling.{Differs}
use Rattle.dv_apply.proofs.Lending.{bad_by}
use Rattle.dv_apply.proofs.Lightness.{touched_apart}
use Rattle.dv_apply.proofs.Readying.{holds_new, refused_whole}
use Rattle.dv_apply.specs.States.{Kept, mailbox_of}
use Rattle.dv_apply.proofs.light.touched_among.Goals as goal

pub returns-in-Err-clause-bad : goal.returns-in-Err-clause-bad
returns-in-Err-clause-bad c =
    let m = mailbox_of c.args.state.now in
    let uids = c.args.uids.now in
    bad_by (List ℕ) c.apply_apart.result c.in-Err.e _ _ c.in-Err.is c.apply_apart.ensures.bad (λ x h. refused_whole (is_parted uids m.next_uid) m c.args.records.now x (holds_new uids m.next_uid) h)

pub returns-clause-touched : goal.returns-clause-touched
returns-clause-touched c = λ after is uid.
    let m = mailbox_of c.args.state.now in
    let uids = c.args.uids.now in
    let share = c.in-Ok.share in
    let touched = c.in_ok-between.field-0 in
    let rows = ap (λ (k : Kept). k.mailbox.rows) c.apply_apart.ensures.is in
    touched_apart m after c.args.records.now uids _ share touched uid c.in-Ok.ensures.ok is
    (subst (λ (rs : List Row). Contains touched uid ↔ (Contains uids uid × Differs rs share.rows.rows uid)) rows (c.in_ok-between.ensures uid))
