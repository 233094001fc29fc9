use Rattle.std.proofs.Common.{◌∙◌, ◌++◌, ◌∷◌, [], ap, map}
use Rattle.std.proofs.lemmas.Result.{on_ok_weaker}
use Rattle.dv_blocks.specs.Shared.{Rows, due_of, row_of}
use Rattle.dv_blocks.proofs.Seen.{due_with, kept_rows}
use Rattle.dv_blocks.proofs.rows.BlockRows.hold.Goals as goal

pub invariant_of-self : goal.invariant_of-self
invariant_of-self c = record { shared = c.hold_row.ensures.shared c.self.inside.blocks.cells c.self.invariant.shared; width = c.self.invariant.width }

pub returns-clause-ok : goal.returns-clause-ok
returns-clause-ok c =
    let sizes = c.self.inside.sizes.items in
    let cells = c.self.inside.blocks.cells in
    on_ok_weaker c.hold_row.result
    (λ is. ap (λ l. kept_rows sizes l (map (due_of c.hold_row.new.sets.items) c.hold_row.new.held.items)) (c.hold_row.ensures.rows cells sizes c.self.invariant.shared)
    ∙ ap (kept_rows sizes (map (row_of c.self.inside.sets.items sizes) cells)) is ∙ ap (λ (r : Rows). kept_rows r.sizes r.rows (r.held ++ due_with c.args.at c.args.keywords.now ∷ [])) c.self.view_is)
    (c.hold_row.ensures.ok cells c.self.invariant.shared)
