use Rattle.std.proofs.Common.{◌∙◌, ap, sym}
use Rattle.std.specs.Option.{option_copied}
use Rattle.dv_live.proofs.Rising.{starts_none, starts_some}
use Rattle.dv_live.proofs.merging.starts_with.Goals as goal

pub returns-in-Some : goal.returns-in-Some
returns-in-Some c = sym (starts_some c.args.uids.now c.in-Some.first.now c.args.uid (sym c.first.ensures.value ∙ ap option_copied c.in-Some.is))

pub returns-in-None : goal.returns-in-None
returns-in-None c = sym (starts_none c.args.uids.now c.args.uid (sym c.first.ensures.value ∙ ap option_copied c.in-None.is))
