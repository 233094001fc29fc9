use Rattle.std.proofs.Common.{◌∙◌, ◌++◌, ◌<◌, ℕ, ap, get_or, ltb, rules, subst, sym, arith, drop}
use Rattle.std.specs.List.{AllByRecursion}
use Rattle.std.proofs.lemmas.Bool.{ltb-false, ltb-true}
use Rattle.std.proofs.lemmas.List.{take-append-drop}
use Rattle.std.proofs.lemmas.List.Sorted.{IsPartitionPoint-from_clause}
use Rattle.dv_live.specs.Turning.{RiseFrom}
use Rattle.dv_live.proofs.Rising.{before_place, from_place, splits}
use Rattle.dv_live.proofs.merging.split_at_uid.Goals as goal

pub returns-clause-parts : goal.returns-clause-parts
returns-clause-parts c =
    let us = c.args.uids.now in
    let at = c.partition_point.result in
    sym (take-append-drop at us) ∙ ap (λ xs. xs ++ drop at us) (sym c.split_at.ensures.front) ∙ ap (λ xs. c.split_at.result.0.now ++ xs) (sym c.split_at.ensures.back)

pub returns-clause-before : goal.returns-clause-before
returns-clause-before c =
    let us = c.args.uids.now in
    let uid = c.args.uid in
    let at = c.partition_point.result in
    let place = IsPartitionPoint-from_clause (λ (u : ℕ). ltb u uid) us at c.partition_point.ensures.partitioned (splits 0 us uid c.requires) (λ a r f k. search rules) in
    subst (AllByRecursion (λ u. u < uid)) (sym c.split_at.ensures.front) (before_place us uid at (λ k less inside. ltb-true (get_or us k 0) uid (place.0 k 0 (omega arith) less)))

pub returns-clause-from : goal.returns-clause-from
returns-clause-from c =
    let us = c.args.uids.now in
    let uid = c.args.uid in
    let at = c.partition_point.result in
    let place = IsPartitionPoint-from_clause (λ (u : ℕ). ltb u uid) us at c.partition_point.ensures.partitioned (splits 0 us uid c.requires) (λ a r f k. search rules) in
    subst (RiseFrom uid) (sym c.split_at.ensures.back) (from_place 0 us uid at c.requires (λ inside. ltb-false (get_or us at 0) uid (place.1 at 0 (omega arith) inside)))
