use Rattle.std.proofs.Common.{◌∙◌, ℕ, List, sym, ap, subst}
use Rattle.dv_model.specs.Fields.{virtual_size}
use Rattle.dv_responses.proofs.Naming.{describes, facts_are}
use Rattle.dv_responses.specs.Supplied.{DescribesAsked, values_of}
use Rattle.dv_responses.proofs.facts.facts_from.Goals as goal

pub returns-clause-describes : goal.returns-clause-describes
returns-clause-describes c = λ command asks.
    let asked = c.args.asked.now in
    let message = c.args.message in
    let is = facts_are asked c.args.uid c.virtual_size-size.result message c.body_if.result c.in_ok-fields.fields
    (c.virtual_size-size.ensures ∙ ap virtual_size c.as_slice.ensures) c.body_if.ensures
    (c.in_ok-fields.ensures ∙ ap (λ (text : List ℕ). values_of text c.as_slice-3.result.now) c.as_slice-2.ensures ∙ ap (values_of message) c.as_slice-3.ensures) in
    subst (DescribesAsked command message) (sym is) (describes command asked c.args.uid message asks)
