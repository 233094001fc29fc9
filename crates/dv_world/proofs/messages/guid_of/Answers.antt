use Rattle.std.proofs.Common.{◌∙◌, ap, sym}
use Rattle.std.specs.Option.{option_copied}
use Rattle.dv_world.proofs.Looking.{guid_none, guid_some}
use Rattle.dv_world.proofs.messages.guid_of.Goals as goal

pub returns-in-Some : goal.returns-in-Some
returns-in-Some c = sym (guid_some c.args.stored.now c.args.uid c.in-Some.kept.now (sym c.found.ensures ∙ ap option_copied c.in-Some.is))

pub returns-in-None : goal.returns-in-None
returns-in-None c = sym (guid_none c.args.stored.now c.args.uid (sym c.found.ensures ∙ ap option_copied c.in-None.is))
