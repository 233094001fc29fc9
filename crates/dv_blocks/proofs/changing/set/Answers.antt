use Rattle.std.proofs.Common.{◌∙◌, ap, refl, subst, sym}
use Rattle.dv_blocks.specs.Cells.{with_values}
use Rattle.dv_blocks.specs.Chunks.{AreChunks, AreCounted, cells_of}
use Rattle.dv_blocks.specs.declared.chunk.Chunk.{Chunk}
use Rattle.dv_blocks.proofs.Items.{are_item, cells_item, changed_list, counted_item}
use Rattle.dv_blocks.proofs.changing.set.Goals as goal

pub returns-clause-cells : goal.returns-clause-cells
returns-clause-cells c =
    let cs = c.args.chunks.now in
    let i = c.place_in-block.result.0 in
    let o = c.place_in-block.result.1 in
    let x : Chunk = c.index-chunks-block.result in
    let is = c.place_in-block.ensures cs c.requires.counted c.requires.inside in
    ap cells_of (changed_list (with_values c.args.flags c.args.modseq c.args.words) cs i o x c.set.new.self is.inside c.set.ensures)
    ∙ cells_item (with_values c.args.flags c.args.modseq c.args.words) cs i o c.args.at x is.inside (is.within x) is.sum

pub returns-clause-are : goal.returns-clause-are
returns-clause-are c w are =
    let cs = c.args.chunks.now in
    let i = c.place_in-block.result.0 in
    let o = c.place_in-block.result.1 in
    let x : Chunk = c.index-chunks-block.result in
    let is = c.place_in-block.ensures cs c.requires.counted c.requires.inside in
    subst (AreChunks w) (sym (changed_list (with_values c.args.flags c.args.modseq c.args.words) cs i o x c.set.new.self is.inside c.set.ensures))
    (are_item w (with_values c.args.flags c.args.modseq c.args.words) cs c.args.at i o x (λ y. refl) is are)

pub returns-clause-counted : goal.returns-clause-counted
returns-clause-counted c =
    let cs = c.args.chunks.now in
    let i = c.place_in-block.result.0 in
    let o = c.place_in-block.result.1 in
    let x : Chunk = c.index-chunks-block.result in
    let is = c.place_in-block.ensures cs c.requires.counted c.requires.inside in
    subst (AreCounted c.args.starts.now) (sym (changed_list (with_values c.args.flags c.args.modseq c.args.words) cs i o x c.set.new.self is.inside c.set.ensures))
    (counted_item c.args.starts.now (with_values c.args.flags c.args.modseq c.args.words) cs i o c.requires.counted)
