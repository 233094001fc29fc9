use Rattle.std.proofs.lemmas.Result.{err_from_is_err_and}
use Rattle.dv_records.proofs.Keywords.{front_fails}
use Rattle.dv_records.proofs.keyword.read_keyword.Goals as goal

pub returns-in_err-how : goal.returns-in_err-how
returns-in_err-how c =
    let p = err_from_is_err_and c.from_residual.result c.from_residual.ensures.1 in
    rw (p.1, p.2) (front_fails c.args.bytes.now c.in_err-how.field-0.0 c.in_err-how.ensures)
