use Rattle.std.proofs.Common.{◌∙◌, ap}
use Rattle.std.specs.List.{remove_range}
use Rattle.dv_blocks.specs.Cells.{Cells, Strings, beside}
use Rattle.dv_blocks.proofs.Sides.{are, removed, rows_of, same_columns, viewed}
use Rattle.dv_blocks.proofs.block.Block.remove.Goals as goal

pub invariant_of-self : goal.invariant_of-self
invariant_of-self c =
    let b = c.self.inside in
    let cells = beside b.uids.items b.flags.items b.modseqs.items b.words.items b.parts.items in
    are _ _ _ _ _ (remove_range cells c.args.from c.args.to)
    (same_columns _ _ _ _ _ _ _ _ _ _ (remove_range cells c.args.from c.args.to) c.remove_run.ensures.items c.remove_run-2.ensures.items c.remove_run-3.ensures.items c.remove_run-4.ensures.items (ap (λ (s : Strings). s.items) c.remove.ensures)
    (removed b.uids.items b.flags.items b.modseqs.items b.words.items b.parts.items cells c.args.from c.args.to c.self.invariant))

pub returns : goal.returns
returns c =
    let b = c.self.inside in
    let cells = beside b.uids.items b.flags.items b.modseqs.items b.words.items b.parts.items in
    viewed c.remove.new.self.width b.parts.width _ _ _ _ _ (remove_range cells c.args.from c.args.to) (ap (λ (s : Strings). s.width) c.remove.ensures)
    (same_columns _ _ _ _ _ _ _ _ _ _ (remove_range cells c.args.from c.args.to) c.remove_run.ensures.items c.remove_run-2.ensures.items c.remove_run-3.ensures.items c.remove_run-4.ensures.items (ap (λ (s : Strings). s.items) c.remove.ensures)
    (removed b.uids.items b.flags.items b.modseqs.items b.words.items b.parts.items cells c.args.from c.args.to c.self.invariant))
    ∙ ap (λ (s : Cells). rows_of s.width (remove_range s.cells c.args.from c.args.to)) c.self.view_is
