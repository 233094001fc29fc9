use Rattle.std.proofs.Common.{◌∙◌, ap, ltb, rules, sym}
use Rattle.std.proofs.lemmas.List.Sorted.{IsPartitionPoint-from_clause}
use Rattle.dv_model.specs.declared.types.Shown.{Shown}
use Rattle.dv_view.proofs.Rising.{IsPlace, all_below, is_missing, is_there, uids_split}
use Rattle.dv_view.proofs.places.place_of.Goals as goal

pub returns-then-at-rows-clause-is : goal.returns-then-at-rows-clause-is
returns-then-at-rows-clause-is c =
    let place : IsPlace c.args.rows.now c.args.uid c.partition_point-at.result =
    IsPartitionPoint-from_clause (λ (s : Shown). ltb s.uid c.args.uid) c.args.rows.now c.partition_point-at.result c.partition_point-at.ensures.partitioned (uids_split c.args.rows.now c.args.uid c.requires) (λ a r f k. search rules) in
    sym (all_below c.args.rows.now c.args.uid c.partition_point-at.result place c.partition_point-at.ensures.bound c.if-at-rows.true)

pub returns-then-rows-at-clause-is : goal.returns-then-rows-at-clause-is
returns-then-rows-at-clause-is c =
    let place : IsPlace c.args.rows.now c.args.uid c.partition_point-at.result =
    IsPartitionPoint-from_clause (λ (s : Shown). ltb s.uid c.args.uid) c.args.rows.now c.partition_point-at.result c.partition_point-at.ensures.partitioned (uids_split c.args.rows.now c.args.uid c.requires) (λ a r f k. search rules) in
    sym (is_missing c.args.rows.now c.args.uid c.partition_point-at.result c.index-rows-at.result c.requires place c.if-at-rows.false c.index-rows-at.is (λ e. c.if-rows-at.true (ap (λ (s : Shown). s.uid) (sym c.index-rows-at.is) ∙ e)))

pub returns-clause-is : goal.returns-clause-is
returns-clause-is c =
    let place : IsPlace c.args.rows.now c.args.uid c.partition_point-at.result =
    IsPartitionPoint-from_clause (λ (s : Shown). ltb s.uid c.args.uid) c.args.rows.now c.partition_point-at.result c.partition_point-at.ensures.partitioned (uids_split c.args.rows.now c.args.uid c.requires) (λ a r f k. search rules) in
    sym (is_there c.args.rows.now c.args.uid c.partition_point-at.result c.index-rows-at.result place c.if-at-rows.false c.index-rows-at.is (ap (λ (s : Shown). s.uid) c.index-rows-at.is ∙ c.if-rows-at.false))
