use Rattle.std.proofs.Common.{◌↔◌, ap, sym, subst}
use Rattle.std.specs.Prelude.{Contains}
use Rattle.std.specs.List.Sorted.{IsStrictlyIncreasing}
use Rattle.dv_model.specs.declared.types.Mailbox.{Mailbox}
use Rattle.dv_model.specs.Fresh.{IsTouched}
use Rattle.dv_apply.proofs.Lending.{bad_by}
use Rattle.dv_apply.proofs.Lightness.{light_made}
use Rattle.dv_apply.specs.declared.share.Light.{Light}
use Rattle.dv_apply.specs.States.{Held, Kept, held_of, mailbox_of}
use Rattle.dv_apply.proofs.prepare.make_light.Goals as goal

pub touched_by-requires-clause-rising : goal.touched_by-requires-clause-rising
touched_by-requires-clause-rising c = subst IsStrictlyIncreasing (sym c.deref.ensures.value) c.requires.uids.rising

pub returns-in-Err-clause-bad : goal.returns-in-Err-clause-bad
returns-in-Err-clause-bad c = bad_by Light c.touched_by.result c.in-Err.e _ _ c.in-Err.is c.touched_by.ensures.bad (λ x h. h)

pub returns-clause-ok : goal.returns-clause-ok
returns-clause-ok c = λ after is.
    let m : Mailbox = mailbox_of c.args.state.now in
    let live : Held = held_of c.touched_by.new.state in
    light_made m live c.args.records.now c.in_ok-records.records c.args.uids.items c.in-Ok.touched after c.requires.kept.valid c.requires.light c.requires.uids c.requires.records is c.in_ok-records.ensures
    (ap (λ (k : Kept). k.mailbox) c.touched_by.ensures.is)
    (λ uid. subst (λ us. Contains c.in-Ok.touched uid ↔ (Contains us uid × IsTouched m after uid)) c.deref.ensures.value (c.in-Ok.ensures.touched after is uid))
