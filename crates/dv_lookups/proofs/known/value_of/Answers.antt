use Rattle.std.proofs.Common.{◌≡◌, Some, Option, List, ℕ, map, sym, ◌∙◌, ap}
use Rattle.std.specs.Prelude.{slice_get}
use Rattle.std.specs.Option.{option_copied}
use Rattle.std.proofs.lemmas.Option.{same_Some}
use Rattle.dv_cache.specs.declared.row.Known.{Known}
use Rattle.dv_model.specs.Fields.{field_of}
use Rattle.dv_openings.specs.TrueCaches.{kept_names}
use Rattle.dv_lookups.proofs.Looked.{field_at}
use Rattle.dv_lookups.proofs.known.value_of.Goals as goal

pub returns-in-Some : goal.returns-in-Some
returns-in-Some c = λ message known kept.
    let at = c.in_ok-at.at in
    let fields : c.as_slice.result.now ≡ map (field_of message) kept_names = c.as_slice.ensures ∙ ap (λ (k : Known). k.fields) known in
    let there : Some c.in-Some.value.now ≡ slice_get c.as_slice.result.now at = sym (ap option_copied c.in-Some.is) ∙ c.field_at.ensures in
    let same : c.in-Some.value.now ≡ field_of message c.args.name.now = same_Some c.in-Some.value.now (field_of message c.args.name.now) (there ∙ ap (λ (fs : List (Option (List ℕ))). slice_get fs at) fields ∙ field_at message c.args.name.now at c.in_ok-at.ensures) in
    c.as_ref.ensures.value ∙ same
