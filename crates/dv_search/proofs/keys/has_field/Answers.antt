use Rattle.std.proofs.Common.{◌≡◌, ◌∙◌, Some, None, ap, rules, IfOk}
use Rattle.std.specs.Option.{option_copied}
use Rattle.std.specs.Str.{str_to_ascii_lowercase}
use Rattle.dv_model.specs.declared.types.Key.TheVariants as key
use Rattle.dv_model.specs.Searches.{contains_text}
use Rattle.dv_model.proofs.Searching.{needs_mail-Header}
use Rattle.dv_search.specs.Facts.{known_field}
use Rattle.dv_search.proofs.Meeting.{met-Header, met-no-Header, met-none}
use Rattle.dv_search.proofs.keys.has_field.Goals as goal

pub returns-in_default : goal.returns-in_default
returns-in_default c =
    let facts = option_copied c.args.c.now.facts in
    let is : facts ≡ None = ap option_copied c.in_default.is in
    met-none facts c.args.c.now (key.Header c.args.name.now c.args.text.now) _ (needs_mail-Header c.args.name.now c.args.text.now) is

pub returns-in-Some-value_of : goal.returns-in-Some-value_of
returns-in-Some-value_of c =
    let facts = option_copied c.args.c.now.facts in
    let is : facts ≡ Some c.in-Some.facts.now = search rules in
    let some : option_copied c.value_of.result ≡ Some c.in-Some-value_of.value.now = search rules in
    let found : IfOk c.contains.result (λ found. found ≡ contains_text (str_to_ascii_lowercase c.in-Some-value_of.value.now) (str_to_ascii_lowercase c.args.text.now)) = search rules in
    met-Header facts c.args.c.now c.args.name.now c.args.text.now c.in-Some-value_of.value.now c.in-Some.facts.now (option_copied c.value_of.result) c.contains.result is (λ v known. c.value_of.ensures v (ap (known_field c.in-Some.facts.now.fields) c.as_slice.ensures ∙ known)) some found

pub returns-in-None : goal.returns-in-None
returns-in-None c =
    let facts = option_copied c.args.c.now.facts in
    let is : facts ≡ Some c.in-Some.facts.now = search rules in
    let none : option_copied c.value_of.result ≡ None = search rules in
    met-no-Header facts c.args.c.now c.args.name.now c.args.text.now c.in-Some.facts.now (option_copied c.value_of.result) is (λ v known. c.value_of.ensures v (ap (known_field c.in-Some.facts.now.fields) c.as_slice.ensures ∙ known)) none
