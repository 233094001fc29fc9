use Rattle.std.proofs.Common.{◌∙◌, List, ap, map, subst, sym}
use Rattle.std.specs.List.{remove_range}
use Rattle.std.proofs.lemmas.List.{with_items_is}
use Rattle.dv_blocks.specs.Shared.{AreShared, Rows, due_of, row_of}
use Rattle.dv_blocks.specs.declared.sets.Held.{Held}
use Rattle.dv_blocks.proofs.Seen.{kept_rows}
use Rattle.dv_blocks.proofs.rows.BlockRows.remove.Goals as goal

pub remove_rows-requires-clause-shared : goal.remove_rows-requires-clause-shared
remove_rows-requires-clause-shared c =
    (c.self.inside.held.items, subst (λ (l : List Held). AreShared c.self.inside.held.items l c.self.inside.blocks.cells) (sym c.as_mut_slice.ensures.value) c.self.invariant.shared)

pub invariant_of-self : goal.invariant_of-self
invariant_of-self c =
    let hs = c.self.inside.held.items in
    let before = subst (λ (l : List Held). AreShared hs l c.self.inside.blocks.cells) (sym c.as_mut_slice.ensures.value) c.self.invariant.shared in
    let items = with_items_is c.self.inside.sets c.remove_rows.new.sets (c.remove_rows.auto.sets ∙ c.as_mut_slice.ensures.len) in
    record {
      shared = subst (λ (l : List Held). AreShared hs l c.remove_rows.new.blocks.cells) (sym items) (c.remove_rows.ensures.shared hs before);
      width = c.remove_rows.ensures.width ∙ c.self.invariant.width;
    }

pub returns : goal.returns
returns c =
    let sizes = c.self.inside.sizes.items in
    let hs = c.self.inside.held.items in
    let cells = c.self.inside.blocks.cells in
    let i = c.args.from in
    let j = c.args.to in
    let before = subst (λ (l : List Held). AreShared hs l cells) (sym c.as_mut_slice.ensures.value) c.self.invariant.shared in
    let items = with_items_is c.self.inside.sets c.remove_rows.new.sets (c.remove_rows.auto.sets ∙ c.as_mut_slice.ensures.len) in
    ap (λ (l : List Held). kept_rows sizes (map (row_of l sizes) c.remove_rows.new.blocks.cells) (map (due_of l) hs)) items
    ∙ ap (λ l. kept_rows sizes l (map (due_of c.remove_rows.new.sets) hs)) (c.remove_rows.ensures.rows sizes)
    ∙ ap (kept_rows sizes (remove_range (map (row_of c.as_mut_slice.result.now sizes) cells) i j)) (c.remove_rows.ensures.held hs before)
    ∙ ap (λ (l : List Held). kept_rows sizes (remove_range (map (row_of l sizes) cells) i j) (map (due_of l) hs)) c.as_mut_slice.ensures.value
    ∙ ap (λ (r : Rows). kept_rows r.sizes (remove_range r.rows i j) r.held) c.self.view_is
