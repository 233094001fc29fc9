use Rattle.std.proofs.Common.{◌∙◌, ap, map}
use Rattle.std.proofs.lemmas.Result.{on_ok_weaker}
use Rattle.dv_model.specs.Effects.{with_item}
use Rattle.dv_blocks.specs.Shared.{Rows, due_of, row_of, with_set}
use Rattle.dv_blocks.proofs.Seen.{kept_rows}
use Rattle.dv_blocks.proofs.rows.BlockRows.set.Goals as goal

pub set_row-requires-clause-shared : goal.set_row-requires-clause-shared
set_row-requires-clause-shared c = (c.self.inside.held.items, c.self.invariant.shared)

pub invariant_of-self : goal.invariant_of-self
invariant_of-self c = record {
  shared = c.set_row.ensures.shared c.self.inside.held.items c.self.invariant.shared;
  width = c.set_row.ensures.width ∙ c.self.invariant.width;
}

pub returns-clause-ok : goal.returns-clause-ok
returns-clause-ok c =
    let sizes = c.self.inside.sizes.items in
    let hs = c.self.inside.held.items in
    let new = c.set_row.new.sets.items in
    let cells = c.self.inside.blocks.cells in
    let old = c.self.inside.sets.items in
    let change = with_set c.args.flags c.args.modseq c.args.keywords.now in
    on_ok_weaker c.set_row.result
    (λ is. ap (λ l. kept_rows sizes l (map (due_of new) hs)) (is sizes) ∙ ap (kept_rows sizes (with_item c.args.at change (map (row_of old sizes) cells))) (c.set_row.ensures.held hs c.self.invariant.shared)
    ∙ ap (λ (r : Rows). kept_rows r.sizes (with_item c.args.at change r.rows) r.held) c.self.view_is)
    c.set_row.ensures.ok
