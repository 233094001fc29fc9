use Rattle.std.proofs.Common.{◌∙◌, ◌+◌, ◌<◌, ◌++◌, ap, arith, get_or, length, sym}
use Rattle.std.proofs.lemmas.List.{get_or_default}
use Rattle.std.proofs.lemmas.List.Elements.{All-get_or}
use Rattle.dv_blocks.specs.Chunks.{IsChunk}
use Rattle.dv_blocks.specs.declared.chunk.Chunk.{Chunk}
use Rattle.dv_blocks.proofs.Sides.{rows_of}
use Rattle.dv_blocks.proofs.joining.joined_at.Goals as goal

pub joined-requires-clause-width : goal.joined-requires-clause-width
joined-requires-clause-width c =
    let cs = c.args.chunks.now in
    let w = c.requires.0 in
    let at = c.args.at in
    let x : Chunk = c.index-chunks-at.result in
    let y : Chunk = c.index-chunks-at-2.result in
    let low = c.if-at-chunks.false in
    let high = c.if-chunks-at-lt2.false in
    let one : IsChunk w (get_or cs at x) = All-get_or (IsChunk w) cs at x (omega arith) c.requires.1 in
    let two : IsChunk w (get_or cs (at + 1) y) = All-get_or (IsChunk w) cs (at + 1) y (omega arith) c.requires.1 in
    two.wide ∙ sym one.wide

pub returns-in-Ok : goal.returns-in-Ok
returns-in-Ok c =
    let cs = c.args.chunks.now in
    let at = c.args.at in
    let x : Chunk = c.index-chunks-at.result in
    let y : Chunk = c.index-chunks-at-2.result in
    let low = c.if-at-chunks.false in
    let high = c.if-chunks-at-lt2.false in
    let inside : at + 1 < length cs = omega arith in (
      inside,
      λ d. c.in-Ok.ensures ∙ ap (λ (a : Chunk). rows_of a.block.width (a.block.cells ++ (get_or cs (at + 1) y).block.cells)) (get_or_default cs at x d (omega arith))
          ∙ ap (λ (b : Chunk). rows_of (get_or cs at d).block.width ((get_or cs at d).block.cells ++ b.block.cells)) (get_or_default cs (at + 1) y d inside),
    )
