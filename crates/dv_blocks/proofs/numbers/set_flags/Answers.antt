use Rattle.std.proofs.Common.{◌≡◌, ◌∙◌, ap, get_or, map, subst, sym}
use Rattle.dv_model.specs.Effects.{with_item}
use Rattle.dv_blocks.specs.Cells.{Cell, Cells, with_values}
use Rattle.dv_blocks.specs.Shared.{AreShared, cut, row_of, set_of, with_flags}
use Rattle.dv_blocks.proofs.Found.{no_cell}
use Rattle.dv_blocks.proofs.Seen.{flags_shared, map_item_at, row_with}
use Rattle.dv_blocks.proofs.numbers.set_flags.Goals as goal

pub returns-clause-shared : goal.returns-clause-shared
returns-clause-shared c hs sets are =
    let cells = c.args.blocks.now.cells in
    let g = with_values c.args.flags c.args.modseq c.entry-words.result.words in
    let own : c.entry-words.result.words ≡ (get_or cells c.args.at no_cell).words = (c.entry-words.ensures no_cell).words in
    let made : c.set.new.self.cells ≡ with_item c.args.at g cells = ap (λ (s : Cells). s.cells) c.set.ensures in
    subst (AreShared hs sets) (sym made) (flags_shared sets g c.args.at cells no_cell c.requires own are)

pub returns-clause-rows : goal.returns-clause-rows
returns-clause-rows c sets sizes =
    let cells = c.args.blocks.now.cells in
    let g = with_values c.args.flags c.args.modseq c.entry-words.result.words in
    let x : Cell = get_or cells c.args.at no_cell in
    let own : c.entry-words.result.words ≡ x.words = (c.entry-words.ensures no_cell).words in
    let made : c.set.new.self.cells ≡ with_item c.args.at g cells = ap (λ (s : Cells). s.cells) c.set.ensures in
    ap (map (row_of sets sizes)) made
    ∙ map_item_at (row_of sets sizes) g (with_flags c.args.flags c.args.modseq) c.args.at cells no_cell c.requires
    (ap (λ n. row_with x.uid c.args.flags (set_of sets n) (cut sizes x.part) c.args.modseq) own)
