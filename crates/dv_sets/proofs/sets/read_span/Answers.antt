use Rattle.dv_model.specs.declared.types.Span.{Span}
use Rattle.dv_formats.specs.Scripts.{IsSpan}
use Rattle.dv_sets.proofs.Reading.{none_from, none_to, if_none}
use Rattle.dv_sets.proofs.sets.read_span.Goals as goal

pub returns-in_err-from-clause-none : goal.returns-in_err-from-clause-none
returns-in_err-from-clause-none c =
    if_none c.from_residual.result ((span : Span) → IsSpan span c.args.b.now → ⊥) (none_from c.args.b.now c.cut.result.0.now c.cut.result.1 c.cut.ensures.front c.cut.ensures.parts c.in_err-from.ensures.none)

pub returns-in_err-to-clause-none : goal.returns-in_err-to-clause-none
returns-in_err-to-clause-none c =
    let parts = rw c.in-Some.is at c.cut.ensures.parts in
    if_none c.from_residual-in_err-to.result ((span : Span) → IsSpan span c.args.b.now → ⊥) (none_to c.args.b.now c.cut.result.0.now c.in-Some.rest.now c.cut.ensures.front parts c.in_err-to.ensures.none)
