use Rattle.std.proofs.Common.{◌≡◌, ◌∙◌, [], ap, get_or, map, refl, sym}
use Rattle.std.proofs.lemmas.List.Elements.{All-get_or}
use Rattle.std.proofs.lemmas.Option.{get_or_from_slice_get}
use Rattle.dv_blocks.specs.Cells.{Cell}
use Rattle.dv_blocks.specs.Chunks.{IsChunk}
use Rattle.dv_blocks.specs.declared.chunk.Chunk.{Chunk}
use Rattle.dv_blocks.proofs.Starts.{value_in}
use Rattle.dv_blocks.proofs.reading.part.Goals as goal

pub returns-clause-is : goal.returns-clause-is
returns-clause-is c d =
    let cs = c.args.chunks.now in
    let i = c.place_in-block.result.0 in
    let o = c.place_in-block.result.1 in
    let x = c.index-chunks-block.result in
    let y : Chunk = get_or cs i x in
    let same : y ≡ get_or cs i y = ap (λ (z : Chunk). get_or cs i z) c.index-chunks-block.is in
    sym (get_or_from_slice_get (map (λ (z : Cell). z.part) y.block.cells) o c.part.result.now [] c.part.ensures.is)
    ∙ value_in (λ (z : Cell). z.part) cs c.args.at i o y (map (λ (z : Cell). z.part) y.block.cells) [] d (c.place_in-block.ensures cs c.requires.counted c.requires.inside) same refl

pub returns-clause-width : goal.returns-clause-width
returns-clause-width c w all =
    let cs = c.args.chunks.now in
    let i = c.place_in-block.result.0 in
    let one : IsChunk w (get_or cs i c.index-chunks-block.result) = All-get_or (IsChunk w) cs i c.index-chunks-block.result (c.place_in-block.ensures cs c.requires.counted c.requires.inside).inside all in
    c.part.ensures.width ∙ one.wide
