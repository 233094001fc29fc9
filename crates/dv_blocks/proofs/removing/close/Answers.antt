use Rattle.std.proofs.Common.{◌≡◌, ◌∙◌, ◌≤◌, ap, arith, length}
use Rattle.std.proofs.lemmas.List.{length-take-le}
use Rattle.std.proofs.lemmas.List.Sums.{count_by-le-length, length-filter}
use Rattle.dv_blocks.specs.Chunks.{cells_of, has_rows}
use Rattle.dv_blocks.proofs.Leaving.{cells_kept}
use Rattle.dv_blocks.proofs.removing.close.Goals as goal

pub recount-requires-clause-many : goal.recount-requires-clause-many
recount-requires-clause-many c =
    let cs = c.args.chunks.now.items in
    let left : length c.drop_empty.new.chunks.items ≤ length cs =
    let e = ap length c.drop_empty.ensures in let l = length-filter has_rows cs in let m = count_by-le-length has_rows cs in omega arith in
    let many = c.requires.many in
    let len = c.len.ensures in
    let value = ap length c.as_mut_slice.ensures.value in
    let items = ap length c.truncate.ensures.items in
    let cut = length-take-le c.len.result c.args.starts.now.items (omega arith) in
    let other = ap length c.deref.ensures.value in
    omega arith

pub recount-requires-clause-few : goal.recount-requires-clause-few
recount-requires-clause-few c =
    let cs = c.args.chunks.now.items in
    let same : length (cells_of c.deref.result.now) ≡ length (cells_of cs) = ap (λ l. length (cells_of l)) (c.deref.ensures.value ∙ c.drop_empty.ensures) ∙ ap length (cells_kept cs) in
    let few = c.requires.few in
    omega arith
