use Rattle.std.proofs.Common.{◌↔◌, ◌⊎◌, subst}
use Rattle.std.specs.Prelude.{Contains}
use Rattle.dv_model.specs.Effects.{applied}
use Rattle.dv_model.specs.Fresh.{IsTouched}
use Rattle.dv_apply.proofs.Keeping.{sound}
use Rattle.dv_apply.proofs.Replacing.{either_touched, way_touched}
use Rattle.dv_apply.specs.Preparing.{touched_of}
use Rattle.dv_apply.specs.States.{held_of, mailbox_of}
use Rattle.dv_apply.proofs.touching.apply_touched.Goals as goal

pub test_body-requires : goal.test_body-requires
test_body-requires c = sound c.args.r.now c.requires.record

pub returns-in-Ok-with-clause-touched : goal.returns-in-Ok-with-clause-touched
returns-in-Ok-with-clause-touched c = λ uid.
    either_touched (Contains c.in-Ok-with.all uid) (Contains c.args.touched.now uid) (Contains (touched_of c.in-Ok.way) uid) (IsTouched (mailbox_of c.args.state.now) (mailbox_of c.complete.new.state) uid)
    (subst (λ xs. Contains c.in-Ok-with.all uid ↔ (Contains c.args.touched.now uid ⊎ Contains xs uid)) c.touched.ensures (c.in-Ok-with.ensures.all uid))
    (way_touched (applied (mailbox_of c.args.state.now) c.from_ref.result.now) (mailbox_of c.args.state.now) (mailbox_of c.complete.new.state) (held_of c.prepare.new.state) c.in-Ok.way uid c.in-Ok.ensures.ok c.complete.ensures.is c.prepare.ensures.mailbox)
