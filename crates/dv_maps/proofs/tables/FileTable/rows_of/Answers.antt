use Rattle.std.proofs.Common.{◌∙◌, ◌≡◌, ◌≤◌, List, ap, drop, false, leb, length, ltb, rules, subst, sym, take, true}
use Rattle.std.specs.List.Sorted.{IsNonDecreasingBy, IsPartitionPoint}
use Rattle.std.proofs.lemmas.List.Sorted.{IsNonDecreasingBy-drop, IsPartitionPoint-from_clause, IsPartitionedBy-leb, IsPartitionedBy-ltb}
use Rattle.dv_maps.specs.declared.tables.Listed.{Listed}
use Rattle.dv_maps.specs.Tables.{listed_of}
use Rattle.dv_maps.proofs.ByFile.{of_there}
use Rattle.dv_maps.proofs.tables.FileTable.rows_of.Goals as goal

pub returns : goal.returns
returns c =
    let rows = c.as_slice-rows.result.now in
    let file = c.args.file in
    let at = c.partition_point.result in
    let to = c.partition_point-2.result in
    let more = c.split_at.result.1.now in
    let is : more ≡ drop at rows = c.split_at.ensures.back in
    let up = subst (λ (xs : List Listed). IsNonDecreasingBy (λ (row : Listed). row.file) xs) (sym c.as_slice-rows.ensures.value) c.self.invariant in
    let later = subst (λ (xs : List Listed). IsNonDecreasingBy (λ (row : Listed). row.file) xs) (sym is) (IsNonDecreasingBy-drop (λ (row : Listed). row.file) at rows up) in
    let point = IsPartitionPoint-from_clause (λ (row : Listed). ltb row.file file) rows at c.partition_point.ensures.partitioned (IsPartitionedBy-ltb (λ (row : Listed). row.file) rows file up) (λ a r f k. search rules) in
    let end = IsPartitionPoint-from_clause (λ (row : Listed). leb row.file file) more to c.partition_point-2.ensures.partitioned (IsPartitionedBy-leb (λ (row : Listed). row.file) more file later) (λ a r f k. search rules) in
    c.split_at-2.ensures.front ∙ ap (take to) is
    ∙ of_there rows file at c.partition_point.ensures.bound point to (subst (λ (xs : List Listed). to ≤ length xs) is c.partition_point-2.ensures.bound)
    (subst (λ (xs : List Listed). IsPartitionPoint (λ (row : Listed). leb row.file file ≡ true) (λ (row : Listed). leb row.file file ≡ false) xs to) is end)
    ∙ ap (listed_of file) (c.as_slice-rows.ensures.value ∙ c.self.view_is)
