use Rattle.std.proofs.Common.{◌∙◌, List, sym, ap, subst, rules}
use Rattle.std.specs.List.Sorted.{IsNonDecreasingBy}
use Rattle.std.proofs.lemmas.List.Sorted.{IsNonDecreasingBy-from_sort_by_key, list_any-IsPermutation}
use Rattle.dv_model.specs.declared.types.Pair.{Pair}
use Rattle.dv_model.specs.Effects.{is_in_pair, is_in_pairs}
use Rattle.dv_ranges.proofs.pairs.join_pairs.Goals as goal

pub sweep-requires : goal.sweep-requires
sweep-requires c =
    subst (IsNonDecreasingBy (λ (p : Pair). p.first)) (sym c.deref.ensures.value)
    (IsNonDecreasingBy-from_sort_by_key (λ (p : Pair). p.first) c.sort_unstable_by_key.new.self.items c.sort_unstable_by_key.ensures.sorted (λ a r f k. search rules))

pub returns-clause-same : goal.returns-clause-same
returns-clause-same c = λ uid.
    c.in_ok-joined.ensures.same uid
    ∙ ap (λ (ps : List Pair). is_in_pairs ps uid) c.deref.ensures.value
    ∙ sym (list_any-IsPermutation (is_in_pair uid) c.in_ok-sorted.sorted.items c.sort_unstable_by_key.new.self.items c.sort_unstable_by_key.ensures.permutation)
    ∙ ap (λ (ps : List Pair). is_in_pairs ps uid) c.in_ok-sorted.ensures.items
