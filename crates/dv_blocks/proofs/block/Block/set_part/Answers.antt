use Rattle.std.proofs.Common.{◌∙◌, ap, refl}
use Rattle.dv_model.specs.Effects.{with_item}
use Rattle.dv_blocks.specs.Cells.{Cells, Strings, beside, with_part}
use Rattle.dv_blocks.proofs.Sides.{are, parted, rows_of, same_columns, viewed}
use Rattle.dv_blocks.proofs.block.Block.set_part.Goals as goal

pub invariant_of-self : goal.invariant_of-self
invariant_of-self c =
    let b = c.self.inside in
    let cells = beside b.uids.items b.flags.items b.modseqs.items b.words.items b.parts.items in
    are _ _ _ _ _ (with_item c.args.at (with_part c.args.part.now) cells)
    (same_columns _ _ _ _ _ _ _ _ _ _ (with_item c.args.at (with_part c.args.part.now) cells) refl refl refl refl (ap (λ (s : Strings). s.items) c.put.ensures)
    (parted b.uids.items b.flags.items b.modseqs.items b.words.items b.parts.items cells c.args.at c.args.part.now c.self.invariant))

pub returns : goal.returns
returns c =
    let b = c.self.inside in
    let cells = beside b.uids.items b.flags.items b.modseqs.items b.words.items b.parts.items in
    viewed c.put.new.self.width b.parts.width _ _ _ _ _ (with_item c.args.at (with_part c.args.part.now) cells) (ap (λ (s : Strings). s.width) c.put.ensures)
    (same_columns _ _ _ _ _ _ _ _ _ _ (with_item c.args.at (with_part c.args.part.now) cells) refl refl refl refl (ap (λ (s : Strings). s.items) c.put.ensures)
    (parted b.uids.items b.flags.items b.modseqs.items b.words.items b.parts.items cells c.args.at c.args.part.now c.self.invariant))
    ∙ ap (λ (s : Cells). rows_of s.width (with_item c.args.at (with_part c.args.part.now) s.cells)) c.self.view_is
