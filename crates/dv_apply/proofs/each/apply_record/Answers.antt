use Rattle.dv_apply.proofs.Keeping.{sound}
use Rattle.dv_apply.proofs.Lightness.{light_accepted, light_done, light_kept, light_takes_none}
use Rattle.dv_apply.specs.States.{mailbox_of}
use Rattle.dv_apply.proofs.each.apply_record.Goals as goal

pub apply_body-requires-clause-sound : goal.apply_body-requires-clause-sound
apply_body-requires-clause-sound c = sound c.args.r.now c.requires.record

pub returns-clause-light : goal.returns-clause-light
returns-clause-light c = λ light.
    let s = c.args.state.now in
    let body = c.args.r.now.body in
    light_done c.apply_body.result (mailbox_of s) body (light_accepted (mailbox_of s) s.extensions.extensions body light) c.apply_body.ensures.bad
    (c.apply_body.ensures.memory (light_takes_none s.extensions.extensions s.spare body light))

pub returns-clause-spare : goal.returns-clause-spare
returns-clause-spare c = light_kept c.apply_body.result c.args.state.now c.apply_body.new.state c.args.r.now.body c.apply_body.ensures.ok
