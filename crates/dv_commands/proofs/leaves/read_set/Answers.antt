use Rattle.dv_commands.proofs.Grammar.{set_gives}
use Rattle.dv_commands.proofs.leaves.read_set.Goals as goal

pub returns : goal.returns
returns c = set_gives c.args.b.now c.parse_set.result c.parse_set.ensures.found c.parse_set.ensures.bad
