use Rattle.std.proofs.Common.{rules}
use Rattle.dv_logfile.proofs.Logs.{written_group}
use Rattle.dv_logfile.proofs.texts.group_text.Goals as goal

pub returns-clause-group : goal.returns-clause-group
returns-clause-group c = written_group _ c.args.group.now.records c.requires.some c.requires.valid (search rules)
