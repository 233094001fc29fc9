use Rattle.std.proofs.Common.{◌≡◌, ◌∙◌, List, sym, ap, subst, rules}
use Rattle.std.specs.List.Sorted.{IsNonDecreasingBy}
use Rattle.std.proofs.lemmas.List.Sorted.{IsNonDecreasingBy-from_sort_by_key, list_any-IsPermutation}
use Rattle.std.proofs.lemmas.Result.{IfOk-weaker}
use Rattle.dv_sets.specs.declared.intervals.Interval.{Interval}
use Rattle.dv_sets.specs.Intervals.{AreInside, is_covered, is_within, numbers_where}
use Rattle.dv_sets.proofs.Swept.{inside_permuted, where_same}
use Rattle.dv_sets.proofs.intervals.numbers_of.Goals as goal

pub sweep-requires-clause-rising : goal.sweep-requires-clause-rising
sweep-requires-clause-rising c =
    subst (IsNonDecreasingBy (λ (i : Interval). i.from)) (sym c.deref.ensures.value)
    (IsNonDecreasingBy-from_sort_by_key (λ (i : Interval). i.from) c.sort_unstable_by_key.new.self.items c.sort_unstable_by_key.ensures.sorted (λ a r f k. search rules))

pub sweep-requires-clause-inside : goal.sweep-requires-clause-inside
sweep-requires-clause-inside c =
    subst (AreInside c.args.count) (sym c.deref.ensures.value)
    (inside_permuted c.args.count c.args.intervals.items c.sort_unstable_by_key.new.self.items c.sort_unstable_by_key.ensures.permutation c.requires)

pub returns : goal.returns
returns c =
    let xs = c.args.intervals.items in
    let ys = c.sort_unstable_by_key.new.self.items in
    let same : numbers_where (is_covered c.deref.result.now) c.args.count ≡ numbers_where (is_covered xs) c.args.count =
    ap (λ (is : List Interval). numbers_where (is_covered is) c.args.count) c.deref.ensures.value
    ∙ where_same (is_covered ys) (is_covered xs) (λ k. sym (list_any-IsPermutation (is_within k) xs ys c.sort_unstable_by_key.ensures.permutation)) c.args.count in
    IfOk-weaker c.sweep.result _ _ (λ numbers is. is ∙ same) c.sweep.ensures
