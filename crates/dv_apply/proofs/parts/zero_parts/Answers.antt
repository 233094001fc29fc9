use Rattle.dv_apply.proofs.Extending.{alike_itself}
use Rattle.dv_apply.proofs.parts.zero_parts.Goals as goal

pub returns-in-Same-clause-alike : goal.returns-in-Same-clause-alike
returns-in-Same-clause-alike c = alike_itself c.args.rows.now.rows
