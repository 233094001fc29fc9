use Rattle.std.proofs.Common.{◌≡◌, ℕ, List, Option, get_or, map, ap, subst}
use Rattle.std.specs.Prelude.{IfOk}
use Rattle.dv_model.specs.Fields.{field_of}
use Rattle.dv_validity.proofs.Agreeing.{map_same}
use Rattle.dv_lookups.specs.Headers.{at_name}
use Rattle.dv_lookups.proofs.headers.fields_of.Goals as goal

pub returns : goal.returns
returns c =
    let names = c.args.names.now in
    let message = c.args.message.now in
    let values = c.in_ok-values.values in
    let found : List ℕ → List ℕ × Option (List ℕ) = λ name. (name, at_name values name) in
    let asked : List ℕ → List ℕ × Option (List ℕ) = λ name. (name, field_of message name) in
    let same : map found names ≡ map asked names = map_same found asked names (λ k d less.
    ap (λ (o : Option (List ℕ)). (get_or names k d, o)) (c.in_ok-values.ensures (get_or names k d) (c.in_ok-missing.ensures k d less))) in
    subst (λ (all : List (List ℕ × Option (List ℕ))). IfOk c.with_values.result (λ pairs. pairs ≡ all)) same c.with_values.ensures
