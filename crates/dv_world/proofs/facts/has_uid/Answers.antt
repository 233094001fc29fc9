use Rattle.std.proofs.Common.{◌∙◌}
use Rattle.dv_responses.proofs.Having.{has_place}
use Rattle.dv_world.proofs.facts.has_uid.Goals as goal

pub returns : goal.returns
returns c = c.is_some.ensures ∙ has_place c.args.live.now.mailbox.rows c.args.uid c.position.result c.position.ensures
