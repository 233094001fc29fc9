use Rattle.std.proofs.Common.{arith, rules}
use Rattle.std.proofs.Common.{ltb}
use Rattle.std.proofs.lemmas.List.Sorted.{IsPartitionPoint-from_clause}
use Rattle.dv_rows.proofs.GivenPlaces.{IsSplit, numbers_split, place_goes, place_there}
use Rattle.dv_rows.proofs.adding.gap.Goals.{else-at-places-via-then-at-places+else-places-at, else-at-places-via-else-at-places}
use Rattle.dv_rows.proofs.adding.gap.Goals as goal

pub returns-then-places-at : goal.returns-then-places-at
returns-then-places-at c =
    let places = c.args.places.now in
    let at = c.partition_point-at.result in
    let split : IsSplit c.args.place places at =
    IsPartitionPoint-from_clause (λ n. ltb n c.args.place) places at c.partition_point-at.ensures.partitioned (numbers_split places c.args.place c.requires) (λ a r f k. search rules) in
    place_there c.args.place places at split c.if-at-places.true c.if-places-at.true

pub returns : goal.returns
returns c =
    let places = c.args.places.now in
    let at = c.partition_point-at.result in
    let split : IsSplit c.args.place places at =
    IsPartitionPoint-from_clause (λ n. ltb n c.args.place) places at c.partition_point-at.ensures.partitioned (numbers_split places c.args.place c.requires) (λ a r f k. search rules) in
    place_goes c.args.place places at c.requires c.partition_point-at.ensures.bound split
    (elim c.else-at-places.branch [
      | else-at-places-via-then-at-places+else-places-at w ↦ λ below same. w.if-places-at.false same
      | else-at-places-via-else-at-places w ↦ λ below same. let past = w.if-at-places.false in omega (arith, below, past)
    ])
