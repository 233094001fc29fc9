use Rattle.std.proofs.Common.{◌∙◌}
use Rattle.dv_rows.proofs.Stripped.{all_bare}
use Rattle.dv_rows.proofs.bare.fit_bare.Goals as goal

pub returns-in-Err-clause-err : goal.returns-in-Err-clause-err
returns-in-Err-clause-err c = c.strip.ensures ∙ c.in-Err.ensures.err ∙ all_bare c.args.rows.now c.requires
