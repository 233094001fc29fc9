use Rattle.std.proofs.Common.{◌∙◌, List, ap, ltb, rules, subst, sym}
use Rattle.std.specs.List.Sorted.{IsNonDecreasingBy}
use Rattle.std.proofs.lemmas.List.Sorted.{IsPartitionPoint-from_clause, IsPartitionedBy-ltb}
use Rattle.dv_maps.specs.declared.tables.Listed.{Listed}
use Rattle.dv_maps.specs.Tables.{listed_from}
use Rattle.dv_maps.proofs.ByFile.{from_there}
use Rattle.dv_maps.proofs.tables.FileTable.rows_from.Goals as goal

pub returns-clause-is : goal.returns-clause-is
returns-clause-is c =
    let rows = c.as_slice-rows.result.now in
    let from = c.args.from in
    let at = c.partition_point.result in
    let up = subst (λ (xs : List Listed). IsNonDecreasingBy (λ (row : Listed). row.file) xs) (sym c.as_slice-rows.ensures.value) c.self.invariant in
    let point = IsPartitionPoint-from_clause (λ (row : Listed). ltb row.file from) rows at c.partition_point.ensures.partitioned (IsPartitionedBy-ltb (λ (row : Listed). row.file) rows from up) (λ a r f k. search rules) in
    c.split_at.ensures.back ∙ from_there rows from at c.partition_point.ensures.bound point ∙ ap (listed_from from) (c.as_slice-rows.ensures.value ∙ c.self.view_is)
