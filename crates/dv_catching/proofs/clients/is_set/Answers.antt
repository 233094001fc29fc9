use Rattle.std.proofs.Common.{◌∙◌, sym}
use Rattle.dv_catching.proofs.Sets.{bad_cut, last_range, more_ranges}
use Rattle.dv_catching.proofs.clients.is_set.Goals as goal

pub returns-then-not-is_span : goal.returns-then-not-is_span
returns-then-not-is_span c =
    sym (c.pieces.invariant ∙ bad_cut c.pieces.text.now c.cut.result.0.now c.cut.result.1 c.cut.ensures.pieces (sym c.is_span.ensures ∙ c.if-not-is_span.true))

pub returns-in_default : goal.returns-in_default
returns-in_default c =
    let parts = rw c.in_default.is at c.cut.ensures.pieces in
    sym (c.pieces.invariant ∙ last_range c.pieces.text.now c.cut.result.0.now parts (sym c.is_span.ensures ∙ c.if-not-is_span.false))

pub pieces-preserved : goal.pieces-preserved
pieces-preserved c =
    let parts = rw c.in-Some.is at c.cut.ensures.pieces in
    c.pieces.invariant ∙ more_ranges c.pieces.text.now c.cut.result.0.now c.in-Some.rest.now parts (sym c.is_span.ensures ∙ c.if-not-is_span.false)
