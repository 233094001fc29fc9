use Rattle.dv_commands.proofs.Grammar.{flags_gives}
use Rattle.dv_commands.proofs.leaves.read_flags.Goals as goal

pub returns : goal.returns
returns c = flags_gives c.args.b.now c.parse_flags.result c.parse_flags.ensures.found c.parse_flags.ensures.bad
