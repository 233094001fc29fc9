use Rattle.std.proofs.Common.{◌≡◌, ◌∙◌, ◌<◌, ◌≤◌, ◌++◌, ◌∷◌, [], ℕ, ap, arith, get_or, length, map, sym, take}
use Rattle.std.proofs.lemmas.List.{append_assoc, get_or-map, length-append, length-take-le, take_all, take_more}
use Rattle.std.proofs.lemmas.Option.{get_or_from_slice_get}
use Rattle.dv_blocks.specs.Cells.{Cell, Cells}
use Rattle.dv_blocks.specs.Chunks.{cell_of}
use Rattle.dv_blocks.specs.declared.chunk.Entry.{Entry}
use Rattle.dv_blocks.proofs.Found.{no_cell, same_cell}
use Rattle.dv_blocks.proofs.Sides.{rows_of}
use Rattle.dv_blocks.proofs.joining.copy_rows.Goals as goal

pub push-requires-clause-width : goal.push-requires-clause-width
push-requires-clause-width c = c.part.ensures.width ∙ c.requires.width ∙ sym (ap (λ (s : Cells). s.width) c.loop-at.invariant)

pub push-requires-clause-few : goal.push-requires-clause-few
push-requires-clause-few c =
    let cells = c.args.block.now.cells in
    let old = c.args.made.now.cells in
    let at = c.loop-at.at in
    let inside : at < length cells = let less = c.loop-at-test.true in let is = c.len-at-end.ensures in omega arith in
    let long : length c.loop-at.made.cells ≡ length (old ++ take at cells) = ap (λ (s : Cells). length s.cells) c.loop-at.invariant in
    let sum = length-append old (take at cells) in
    let part = length-take-le at cells (omega arith) in
    let few = c.requires.few in
    omega arith

abbrev entry_of : ℕ → ℕ → ℕ → ℕ → Entry
entry_of u f m w = record { uid = u; flags = f; modseq = m; words = w }

pub loop-at-preserved : goal.loop-at-preserved
loop-at-preserved c =
    let cells = c.args.block.now.cells in
    let old = c.args.made.now.cells in
    let at = c.loop-at.at in
    let inside : at < length cells = let less = c.loop-at-test.true in let is = c.len-at-end.ensures in omega arith in
    let e = entry_of (get_or c.uids-uids.result.now at 0) (get_or c.flags-flags.result.now at 0) (get_or c.modseqs-modseqs.result.now at 0) (get_or c.words-words.result.now at 0) in
    let row = cell_of e c.part.result.now in
    let part : c.part.result.now ≡ (get_or cells at no_cell).part =
    sym (get_or_from_slice_get (map (λ (z : Cell). z.part) cells) at c.part.result.now [] c.part.ensures.is) ∙ get_or-map (λ (z : Cell). z.part) cells at no_cell [] inside in
    let same : row ≡ get_or cells at no_cell = same_cell e (get_or cells at no_cell) c.part.result.now (record {
      uid = ap (λ l. get_or l at 0) c.uids-uids.ensures ∙ get_or-map (λ (x : Cell). x.uid) cells at no_cell 0 inside;
      flags = ap (λ l. get_or l at 0) c.flags-flags.ensures ∙ get_or-map (λ (x : Cell). x.flags) cells at no_cell 0 inside;
      modseq = ap (λ l. get_or l at 0) c.modseqs-modseqs.ensures ∙ get_or-map (λ (x : Cell). x.modseq) cells at no_cell 0 inside;
      words = ap (λ l. get_or l at 0) c.words-words.ensures ∙ get_or-map (λ (x : Cell). x.words) cells at no_cell 0 inside;
    }) part in
    c.in_ok-push.ensures.ok ∙ ap (λ (s : Cells). rows_of s.width (s.cells ++ row ∷ [])) c.loop-at.invariant
    ∙ ap (rows_of c.args.made.now.width)
    (append_assoc old (take at cells) (row ∷ []) ∙ ap (λ l. old ++ l) (ap (λ (x : Cell). take at cells ++ x ∷ []) same ∙ sym (take_more cells at no_cell inside)))

pub returns : goal.returns
returns c =
    let cells = c.args.block.now.cells in
    let past : length cells ≤ c.loop-at.at = let less = c.loop-at-test.false in let is = c.len-at-end.ensures in omega arith in
    c.loop-at.invariant ∙ ap (λ l. rows_of c.args.made.now.width (c.args.made.now.cells ++ l)) (take_all c.loop-at.at cells past)
