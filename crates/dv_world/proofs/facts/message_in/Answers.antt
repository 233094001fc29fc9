use Rattle.std.proofs.Common.{◌∙◌, Bool, List, None, ap, cond, map, sym, ℕ}
use Rattle.dv_interleavings.specs.Worlds.{mail_of}
use Rattle.dv_world.specs.Shapes.{held_in, stored_of}
use Rattle.dv_world.proofs.Looking.{message_in_is}
use Rattle.dv_world.proofs.facts.message_in.Goals as goal

pub returns-then-has_uid : goal.returns-then-has_uid
returns-then-has_uid c =
    let mail = mail_of (map stored_of c.args.stored.now) in
    c.message_of.ensures ∙ sym (message_in_is mail c.args.live.now.mailbox c.args.uid ∙ ap (λ (b : Bool). cond b (held_in (mail c.args.uid)) None) (sym c.has_uid.ensures ∙ c.if-has_uid.true))

pub returns-else-has_uid : goal.returns-else-has_uid
returns-else-has_uid c =
    let mail = mail_of (map stored_of c.args.stored.now) in
    sym (message_in_is mail c.args.live.now.mailbox c.args.uid ∙ ap (λ (b : Bool). cond b (held_in (mail c.args.uid)) None) (sym c.has_uid.ensures ∙ c.if-has_uid.false))
