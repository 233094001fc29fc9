use Rattle.std.proofs.Common.{◌≡◌, ◌∙◌, ap, map, refl, subst, sym}
use Rattle.dv_model.specs.Effects.{with_item}
use Rattle.dv_blocks.specs.Cells.{Cells, with_part}
use Rattle.dv_blocks.specs.Shared.{AreShared, cut, row_of, with_parts}
use Rattle.dv_blocks.proofs.Found.{no_cell}
use Rattle.dv_blocks.proofs.Seen.{flags_shared, map_item_at}
use Rattle.dv_blocks.proofs.numbers.set_parts.Goals as goal

pub returns-clause-shared : goal.returns-clause-shared
returns-clause-shared c hs sets are =
    let cells = c.args.blocks.now.cells in
    let g = with_part c.args.part.now in
    let made : c.set_part.new.self.cells ≡ with_item c.args.at g cells = ap (λ (s : Cells). s.cells) c.set_part.ensures in
    subst (AreShared hs sets) (sym made) (flags_shared sets g c.args.at cells no_cell c.requires.inside refl are)

pub returns-clause-rows : goal.returns-clause-rows
returns-clause-rows c sets sizes =
    let cells = c.args.blocks.now.cells in
    let g = with_part c.args.part.now in
    let made : c.set_part.new.self.cells ≡ with_item c.args.at g cells = ap (λ (s : Cells). s.cells) c.set_part.ensures in
    ap (map (row_of sets sizes)) made
    ∙ map_item_at (row_of sets sizes) g (with_parts (cut sizes c.args.part.now)) c.args.at cells no_cell c.requires.inside refl
