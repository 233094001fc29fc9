use Rattle.std.proofs.Common.{◌≡◌, ◌∙◌, Some, ap, bytes_eq, find, sym}
use Rattle.std.specs.Option.{option_copied}
use Rattle.dv_search.proofs.Looking.{value_is}
use Rattle.dv_search.proofs.facts.value_of.Goals as goal

pub returns-in-Some : goal.returns-in-Some
returns-in-Some c = λ value known.
    let fields = c.args.facts.now.fields in
    let found : find (λ f. bytes_eq f.0 c.args.name.now) fields ≡ Some c.in-Some.field-0.now = ap (λ fs. find (λ f. bytes_eq f.0 c.args.name.now) fs) (sym c.as_slice.ensures) ∙ sym c.field_named.ensures ∙ ap option_copied c.in-Some.is in
    c.as_ref.ensures.value ∙ value_is fields c.args.name.now c.in-Some.field-0.now value found known
