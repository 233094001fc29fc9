use Rattle.std.proofs.Common.{◌≡◌, ◌∙◌, ◌<◌, ◌^◌, ◌-◌, ◌++◌, ◌∷◌, [], ap, arith, get_or, length, map, subst, sym, take}
use Rattle.std.specs.Prelude.{All}
use Rattle.std.proofs.lemmas.List.{get_or-map, length-map, take_more}
use Rattle.dv_blocks.specs.Cells.{Cell, Cells}
use Rattle.dv_blocks.specs.Chunks.{cell_of}
use Rattle.dv_blocks.proofs.Found.{before_lower, no_cell, same_cell}
use Rattle.dv_blocks.proofs.Sides.{rows_of}
use Rattle.dv_blocks.proofs.blocks.Blocks.compacted.Goals as goal

pub push-requires-clause-above : goal.push-requires-clause-above
push-requires-clause-above c =
    let cells = c.args.self.now.cells in
    let at = c.loop-at.at in
    let inside : at < length cells = let less = c.loop-at-test.true in let is = c.len-at-end.ensures.is in omega arith in
    let lower : All (λ (x : Cell). x.uid < c.entry.result.uid) (take at cells) = before_lower cells at no_cell c.entry.result.uid c.len-at-end.ensures.rising.rising inside (c.entry.ensures no_cell).uid in
    subst (All (λ (x : Cell). x.uid < c.entry.result.uid)) (sym (ap (λ (s : Cells). s.cells) c.loop-at.invariant)) lower

pub push-requires-clause-below : goal.push-requires-clause-below
push-requires-clause-below c =
    let cells = c.args.self.now.cells in
    let at = c.loop-at.at in
    let inside : at < length cells = let less = c.loop-at-test.true in let is = c.len-at-end.ensures.is in omega arith in
    let many = length-map cells (λ (x : Cell). x.uid) in
    let low : get_or (map (λ (x : Cell). x.uid) cells) at 0 < 2 ^ 32 - 1 = c.len-at-end.ensures.rising.below at 0 (omega arith) in
    let here = get_or-map (λ (x : Cell). x.uid) cells at no_cell 0 inside in
    let own : c.entry.result.uid ≡ (get_or cells at no_cell).uid = (c.entry.ensures no_cell).uid in
    omega arith

pub push-requires-clause-width : goal.push-requires-clause-width
push-requires-clause-width c = c.part.ensures.width ∙ sym (ap (λ (s : Cells). s.width) c.loop-at.invariant)

pub loop-at-preserved : goal.loop-at-preserved
loop-at-preserved c =
    let cells = c.args.self.now.cells in
    let at = c.loop-at.at in
    let inside : at < length cells = let less = c.loop-at-test.true in let is = c.len-at-end.ensures.is in omega arith in
    let row = cell_of c.entry.result c.part.result.now in
    c.in_ok-push.ensures.ok ∙ ap (λ (s : Cells). rows_of s.width (s.cells ++ row ∷ [])) c.loop-at.invariant
    ∙ ap (rows_of c.args.self.now.width) (ap (λ (x : Cell). take at cells ++ x ∷ []) (same_cell c.entry.result (get_or cells at no_cell) c.part.result.now (c.entry.ensures no_cell) (c.part.ensures.is no_cell)) ∙ sym (take_more cells at no_cell inside))
