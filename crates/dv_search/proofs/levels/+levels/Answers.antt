use Rattle.std.proofs.Common.{◌≡◌, ◌∙◌, ◌≤◌, ap, rules, sym}
use Rattle.std.specs.Prelude.{nat_le}
use Rattle.dv_model.specs.declared.types.Key.TheVariants as key
use Rattle.dv_search.specs.Nesting.{levels_of}
use Rattle.dv_search.proofs.Depths.{within-And}
use Rattle.dv_search.proofs.levels.+levels.Goals as goal

pub nests_within-returns-in-And : goal.nests_within-returns-in-And
nests_within-returns-in-And t c =
    let is : c.args.key.now ≡ key.And c.in-And.keys = search rules in
    let some : 1 ≤ c.args.levels = search rules in
    c.all_nest_within.ensures ∙ sym (ap (λ k. nat_le (levels_of k) c.args.levels) is ∙ within-And c.in-And.keys c.args.levels some)
