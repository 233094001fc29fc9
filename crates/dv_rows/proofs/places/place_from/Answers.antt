use Rattle.std.proofs.Common.{◌≤◌, List, ltb, length, rules, drop, sym, ◌∙◌, ap, subst}
use Rattle.std.proofs.lemmas.List.Sorted.{IsPartitionPoint-from_clause}
use Rattle.dv_model.specs.declared.types.Row.{Row}
use Rattle.dv_rows.specs.Places.{IsPlace}
use Rattle.dv_rows.proofs.Bounds.{between_split, place_between}
use Rattle.dv_rows.proofs.places.place_from.Goals as goal

pub returns-clause-is : goal.returns-clause-is
returns-clause-is c =
    let rows = c.args.rows.now in
    let low = c.bounds-low.result.0 in
    let high = c.bounds-low.result.1 in
    let bounds = c.bounds-low.ensures in
    let is = c.split_at-2.ensures.back ∙ ap (λ (front : List Row). drop low front) c.split_at.ensures.front in
    let split = between_split rows c.requires c.args.uid low high bounds.order bounds.inside in
    let place : IsPlace c.split_at-2.result.1.now c.args.uid c.partition_point.result =
    IsPartitionPoint-from_clause (λ (row : Row). ltb row.uid c.args.uid) c.split_at-2.result.1.now c.partition_point.result
    c.partition_point.ensures.partitioned (subst (λ (xs : List Row). Rattle.std.specs.List.Sorted.IsPartitionedBy (λ (row : Row). ltb row.uid c.args.uid) xs) (sym is) split) (λ a r f k. search rules) in
    place_between rows c.requires c.args.uid low high bounds.order bounds.inside c.partition_point.result bounds
    (subst (λ (xs : List Row). IsPlace xs c.args.uid c.partition_point.result) is place)
    (subst (λ (xs : List Row). c.partition_point.result ≤ length xs) is c.partition_point.ensures.bound)
