use Rattle.std.proofs.Common.{◌∙◌, ◌-◌, ◌<◌, ◌++◌, ◌∷◌, [], ap, arith, get_or, length, set, sym}
use Rattle.std.proofs.lemmas.Result.{on_ok_weaker}
use Rattle.dv_blocks.specs.Cells.{Cells}
use Rattle.dv_blocks.specs.Chunks.{cell_of, with_rows}
use Rattle.dv_blocks.specs.declared.chunk.Chunk.{Chunk}
use Rattle.dv_blocks.proofs.Items.{item_is_set, with_block}
use Rattle.dv_blocks.proofs.adding.push_last.Goals as goal

pub returns-clause-ok : goal.returns-clause-ok
returns-clause-ok c =
    let cs = c.args.chunks.now in
    let i = length cs - 1 in
    let x : Chunk = c.index-chunks-last.result in
    let inside : length cs - 1 < length cs = let some = c.requires.some in omega arith in
    on_ok_weaker c.push.result
    (λ is. ap (λ (b : Cells). set cs i (with_block b (get_or cs i x))) is ∙ sym (item_is_set (with_rows (λ cells. cells ++ cell_of c.args.row c.args.part.now ∷ [])) cs i x inside))
    c.push.ensures.ok
