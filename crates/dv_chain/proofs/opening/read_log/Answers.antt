use Rattle.std.proofs.Common.{◌∙◌, sym}
use Rattle.dv_chain.proofs.Found.{log_fault}
use Rattle.dv_chain.proofs.opening.read_log.Goals as goal

pub returns-in-Some-clause-err : goal.returns-in-Some-clause-err
returns-in-Some-clause-err g c = λ tells.
    log_fault (g.S.Shelf.sees.files c.args.shelf.now) c.in-Some.bytes c.read.result (sym (c.in_ok-bytes.ensures.found tells) ∙ c.in-Some.is) c.read.ensures.read
