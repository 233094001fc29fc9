use Rattle.std.proofs.lemmas.Result.{err_from_is_err_and}
use Rattle.dv_script.proofs.Beside.{fails_alone, lines_alone}
use Rattle.dv_script.proofs.script.open_lines.Goals as goal

pub returns-in_err-sessions-clause-lines : goal.returns-in_err-sessions-clause-lines
returns-in_err-sessions-clause-lines c =
    let p = err_from_is_err_and c.from_residual.result c.from_residual.ensures.1 in
    rw (p.1, p.2) (fails_alone c.new.result c.args.b.now c.in_err-sessions.field-0.0 c.new.ensures c.in_err-sessions.ensures.fault)

pub returns-clause-lines : goal.returns-clause-lines
returns-clause-lines c = lines_alone c.new.result c.new-names.result c.args.b.now c.new.ensures c.new-names.ensures c.in_ok-sessions.ensures.lines
