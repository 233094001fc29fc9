use Rattle.std.proofs.Common.{◌≡◌, ◌∙◌, ap, rules}
use Rattle.std.specs.Prelude.{is_some}
use Rattle.std.specs.Str.{str_to_ascii_lowercase}
use Rattle.dv_model.specs.Searches.{contains_text}
use Rattle.dv_search.proofs.Texts.{found}
use Rattle.dv_search.proofs.text.contains.Goals as goal

pub returns : goal.returns
returns c =
    let value : c.deref.result.now ≡ str_to_ascii_lowercase c.args.value.now = search rules in
    let text : c.deref-2.result.now ≡ str_to_ascii_lowercase c.args.text.now = search rules in
    let is : c.is_some.result ≡ is_some c.find.result = search rules in
    is ∙ found c.deref.result.now c.deref-2.result.now c.find.result c.find.ensures ∙ ap (λ v. contains_text v c.deref-2.result.now) value ∙ ap (contains_text (str_to_ascii_lowercase c.args.value.now)) text
