use Rattle.std.proofs.Common.{ltb, rules, subst, sym}
use Rattle.std.specs.List.Sorted.{IsPartitionedBy}
use Rattle.std.proofs.lemmas.List.Sorted.{IsPartitionPoint-from_clause}
use Rattle.dv_model.specs.declared.types.Shown.{Shown}
use Rattle.dv_view.specs.Told.{IsPlace}
use Rattle.dv_view.proofs.Placing.{is_place, rest_split}
use Rattle.dv_view.proofs.fresh_places.count_before.Goals as goal

pub returns : goal.returns
returns c =
    let rest = c.split_at.result.1.now in
    let split = subst (IsPartitionedBy (λ (s : Shown). ltb s.uid c.args.uid)) (sym c.split_at.ensures.back) (rest_split c.args.rows.now c.args.from c.args.uid c.requires.rising) in
    subst (λ rs. IsPlace rs c.args.uid c.partition_point.result) c.split_at.ensures.back
    (is_place rest c.args.uid c.partition_point.result c.partition_point.ensures.bound
    (IsPartitionPoint-from_clause (λ (s : Shown). ltb s.uid c.args.uid) rest c.partition_point.result c.partition_point.ensures.partitioned split (λ a r f k. search rules)))
