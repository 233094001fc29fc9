use Rattle.std.proofs.Common.{◌∙◌, sym}
use Rattle.dv_catching.proofs.Sets.{more_cut}
use Rattle.dv_catching.proofs.clients.is_span.Goals as goal

pub returns-then-is_some : goal.returns-then-is_some
returns-then-is_some c =
    let first = rw c.in-Some.is at c.cut.ensures.pieces in
    sym (more_cut c.args.word.now c.cut.result.0.now c.in-Some.rest.now c.cut-2.result.0.now c.cut-2.result.1 first c.cut-2.ensures.pieces (sym c.is_some.ensures ∙ c.if-is_some.true))
