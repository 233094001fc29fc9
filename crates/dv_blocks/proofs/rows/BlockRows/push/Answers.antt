use Rattle.std.proofs.Common.{◌∙◌, ◌<◌, ◌++◌, ◌∷◌, [], ap, map, subst, sym}
use Rattle.std.specs.Prelude.{All}
use Rattle.std.proofs.lemmas.Result.{on_ok_weaker}
use Rattle.dv_model.specs.declared.types.Row.{Row}
use Rattle.dv_blocks.specs.Shared.{Rows, cut, due_of, row_of}
use Rattle.dv_blocks.proofs.Found.{no_cell}
use Rattle.dv_blocks.proofs.Seen.{from_map, kept_rows, row_with}
use Rattle.dv_blocks.proofs.rows.BlockRows.push.Goals as goal

pub push_row-requires-clause-above : goal.push_row-requires-clause-above
push_row-requires-clause-above c =
    let sets = c.self.inside.sets.items in
    let sizes = c.self.inside.sizes.items in
    from_map (λ (r : Row). r.uid < c.args.uid) (row_of sets sizes) c.self.inside.blocks.cells (row_of sets sizes no_cell)
    (subst (All (λ (r : Row). r.uid < c.args.uid)) (sym (ap (λ (r : Rows). r.rows) c.self.view_is)) c.requires.above)

pub push_row-requires-clause-shared : goal.push_row-requires-clause-shared
push_row-requires-clause-shared c = (c.self.inside.held.items, c.self.invariant.shared)

pub invariant_of-self : goal.invariant_of-self
invariant_of-self c = record {
  shared = c.push_row.ensures.shared c.self.inside.held.items c.self.invariant.shared;
  width = c.push_row.ensures.width ∙ c.self.invariant.width;
}

pub returns-clause-ok : goal.returns-clause-ok
returns-clause-ok c =
    let sizes = c.self.inside.sizes.items in
    let hs = c.self.inside.held.items in
    let new = c.push_row.new.sets.items in
    let cells = c.self.inside.blocks.cells in
    let old = c.self.inside.sets.items in
    let row = row_with c.args.uid c.args.flags c.args.keywords.now (cut sizes c.args.parts.now) c.args.modseq in
    on_ok_weaker c.push_row.result
    (λ is. ap (λ l. kept_rows sizes l (map (due_of new) hs)) (is sizes) ∙ ap (kept_rows sizes (map (row_of old sizes) cells ++ row ∷ [])) (c.push_row.ensures.held hs c.self.invariant.shared)
    ∙ ap (λ (r : Rows). kept_rows r.sizes (r.rows ++ row_with c.args.uid c.args.flags c.args.keywords.now (cut r.sizes c.args.parts.now) c.args.modseq ∷ []) r.held) c.self.view_is)
    c.push_row.ensures.ok
