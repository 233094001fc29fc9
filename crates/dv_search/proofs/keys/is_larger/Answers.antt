use Rattle.std.proofs.Common.{◌≡◌, Some, None, nat_lt, rules, subst, sym}
use Rattle.std.specs.Option.{option_copied}
use Rattle.dv_model.specs.declared.types.Key.TheVariants as key
use Rattle.dv_model.proofs.Searching.{needs_mail-Larger}
use Rattle.dv_search.proofs.Meeting.{Answers, met-Larger, met-none}
use Rattle.dv_search.proofs.keys.is_larger.Goals as goal

pub returns-in-Some : goal.returns-in-Some
returns-in-Some c =
    let facts = option_copied c.args.c.now.facts in
    let is : facts ≡ Some c.in-Some.facts.now = search rules in
    let met = met-Larger facts c.args.c.now c.args.size c.in-Some.facts.now is in
    subst (λ n. Answers facts c.args.c.now (key.Larger c.args.size) (nat_lt n c.in-Some.facts.now.size)) (sym c.from.ensures) met

pub returns-in-None : goal.returns-in-None
returns-in-None c =
    let facts = option_copied c.args.c.now.facts in
    let is : facts ≡ None = search rules in
    met-none facts c.args.c.now (key.Larger c.args.size) _ (needs_mail-Larger c.args.size) is
