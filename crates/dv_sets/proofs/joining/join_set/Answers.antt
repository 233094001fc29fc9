use Rattle.std.proofs.Common.{◌∙◌, List, ap, rules, subst, sym}
use Rattle.std.specs.List.Sorted.{IsNonDecreasingBy}
use Rattle.std.proofs.lemmas.List.Sorted.{IsNonDecreasingBy-from_sort_by_key, list_any-IsPermutation}
use Rattle.std.proofs.lemmas.Result.{IfOk-weaker}
use Rattle.dv_sets.specs.declared.joining.Range.{Range}
use Rattle.dv_sets.specs.Joined.{is_in_range, is_in_ranges}
use Rattle.dv_sets.proofs.joining.join_set.Goals as goal

pub sweep-requires : goal.sweep-requires
sweep-requires c =
    subst (IsNonDecreasingBy (λ (r : Range). r.low)) (sym c.deref.ensures.value)
    (IsNonDecreasingBy-from_sort_by_key (λ (r : Range). r.low) c.sort_unstable_by_key.new.self.items c.sort_unstable_by_key.ensures.sorted (λ a r f k. search rules))

pub returns-clause-same : goal.returns-clause-same
returns-clause-same c =
    let xs = c.in_ok-ranges.ranges.items in
    let ys = c.sort_unstable_by_key.new.self.items in
    IfOk-weaker c.sweep.result _ _
    (λ joined same other n.
    same other n ∙ ap (λ (rs : List Range). is_in_ranges rs n) c.deref.ensures.value ∙ sym (list_any-IsPermutation (is_in_range n) xs ys c.sort_unstable_by_key.ensures.permutation) ∙ c.in_ok-ranges.ensures n)
    c.sweep.ensures.same
