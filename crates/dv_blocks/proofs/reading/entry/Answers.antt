use Rattle.std.proofs.Common.{◌∙◌, ap, map, sym}
use Rattle.dv_blocks.specs.Cells.{Cell}
use Rattle.dv_blocks.specs.declared.chunk.Chunk.{Chunk}
use Rattle.dv_blocks.proofs.Starts.{value_in}
use Rattle.dv_blocks.proofs.reading.entry.Goals as goal

pub returns : goal.returns
returns c d =
    let cs = c.args.chunks.now in
    let i = c.place_in-block.result.0 in
    let o = c.place_in-block.result.1 in
    let x = c.index-chunks-block.result in
    let is = c.place_in-block.ensures cs c.requires.counted c.requires.inside in
    record {
      uid = value_in (λ (y : Cell). y.uid) cs c.args.at i o x c.uids.result.now 0 d is c.index-chunks-block.is (c.uids.ensures ∙ ap (λ (z : Chunk). map (λ (y : Cell). y.uid) z.block.cells) (sym c.index-chunks-block.is));
      flags = value_in (λ (y : Cell). y.flags) cs c.args.at i o x c.flags.result.now 0 d is c.index-chunks-block.is (c.flags.ensures ∙ ap (λ (z : Chunk). map (λ (y : Cell). y.flags) z.block.cells) (sym c.index-chunks-block.is));
      modseq = value_in (λ (y : Cell). y.modseq) cs c.args.at i o x c.modseqs.result.now 0 d is c.index-chunks-block.is (c.modseqs.ensures ∙ ap (λ (z : Chunk). map (λ (y : Cell). y.modseq) z.block.cells) (sym c.index-chunks-block.is));
      words = value_in (λ (y : Cell). y.words) cs c.args.at i o x c.words.result.now 0 d is c.index-chunks-block.is (c.words.ensures ∙ ap (λ (z : Chunk). map (λ (y : Cell). y.words) z.block.cells) (sym c.index-chunks-block.is));
    }
