use Rattle.std.proofs.Common.{◌∙◌, ap, refl}
use Rattle.dv_model.specs.Effects.{with_item}
use Rattle.dv_blocks.specs.Cells.{Cells, beside, with_values}
use Rattle.dv_blocks.proofs.Sides.{are, rows_of, valued, viewed}
use Rattle.dv_blocks.proofs.block.Block.set.Goals as goal

pub invariant_of-self : goal.invariant_of-self
invariant_of-self c =
    let b = c.self.inside in
    let cells = beside b.uids.items b.flags.items b.modseqs.items b.words.items b.parts.items in
    are _ _ _ _ _ (with_item c.args.at (with_values c.args.flags c.args.modseq c.args.words) cells)
    (valued b.uids.items b.flags.items b.modseqs.items b.words.items b.parts.items cells c.args.at c.args.flags c.args.modseq c.args.words c.self.invariant)

pub returns : goal.returns
returns c =
    let b = c.self.inside in
    let cells = beside b.uids.items b.flags.items b.modseqs.items b.words.items b.parts.items in
    viewed b.parts.width b.parts.width _ _ _ _ _ (with_item c.args.at (with_values c.args.flags c.args.modseq c.args.words) cells) refl
    (valued b.uids.items b.flags.items b.modseqs.items b.words.items b.parts.items cells c.args.at c.args.flags c.args.modseq c.args.words c.self.invariant)
    ∙ ap (λ (s : Cells). rows_of s.width (with_item c.args.at (with_values c.args.flags c.args.modseq c.args.words) s.cells)) c.self.view_is
