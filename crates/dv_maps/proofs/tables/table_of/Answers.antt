use Rattle.std.proofs.Common.{◌≡◌, ◌∙◌, ap, rules}
use Rattle.std.proofs.lemmas.List.Sorted.{IsNonDecreasingBy-from_sort_by_key, answers_always}
use Rattle.dv_maps.specs.declared.tables.Listed.{Listed}
use Rattle.dv_maps.specs.Tables.{listed_of}
use Rattle.dv_maps.proofs.ByFile.{listed_rows, sorted_rows}
use Rattle.dv_maps.proofs.tables.table_of.Goals as goal

pub invariant_of-result : goal.invariant_of-result
invariant_of-result c = IsNonDecreasingBy-from_sort_by_key (λ (row : Listed). row.file) c.sort_by_key.new.self.items c.in_ok-sort_by_key.ensures.sorted (λ a r f k. search rules)

pub returns : goal.returns
returns c = λ rs is file.
    let stable = c.sort_by_key.ensures.stable (λ (row : Listed). row.file) (answers_always _ (λ a r. r ≡ a.0.now.file) _ (λ a r f k. search rules)) in
    sorted_rows c.args.rows.items c.sort_by_key.new.self.items stable file ∙ ap (listed_of file) is ∙ listed_rows file rs
