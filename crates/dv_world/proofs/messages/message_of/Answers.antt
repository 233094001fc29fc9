use Rattle.std.proofs.Common.{◌∙◌, ap, sym}
use Rattle.std.specs.Option.{option_copied}
use Rattle.dv_world.proofs.Looking.{held_none, held_some}
use Rattle.dv_world.proofs.messages.message_of.Goals as goal

pub returns-in-Some : goal.returns-in-Some
returns-in-Some c = c.as_ref.ensures.value ∙ sym (held_some c.args.stored.now c.args.uid c.in-Some.kept.now (sym c.found.ensures ∙ ap option_copied c.in-Some.is))

pub returns-in-None : goal.returns-in-None
returns-in-None c = sym (held_none c.args.stored.now c.args.uid (sym c.found.ensures ∙ ap option_copied c.in-None.is))
