use Rattle.std.proofs.Common.{◌∙◌, [], List, ap, map}
use Rattle.std.proofs.lemmas.List.{with_items_is}
use Rattle.dv_blocks.specs.Shared.{Rows, due_of, row_of}
use Rattle.dv_blocks.specs.declared.sets.Held.{Held}
use Rattle.dv_blocks.proofs.Seen.{kept_rows, same_shared}
use Rattle.dv_blocks.proofs.rows.BlockRows.let_go.Goals as goal

pub let_go-requires : goal.let_go-requires
let_go-requires c =
    (c.self.inside.blocks.cells, same_shared c.self.inside.held.items c.deref.result.now c.self.inside.sets.items c.as_mut_slice.result.now c.self.inside.blocks.cells c.deref.ensures.value c.as_mut_slice.ensures.value c.self.invariant.shared)

pub invariant_of-self : goal.invariant_of-self
invariant_of-self c =
    let before = same_shared c.self.inside.held.items c.deref.result.now c.self.inside.sets.items c.as_mut_slice.result.now c.self.inside.blocks.cells c.deref.ensures.value c.as_mut_slice.ensures.value c.self.invariant.shared in
    let items = with_items_is c.self.inside.sets c.let_go.new.sets (c.let_go.auto.sets ∙ c.as_mut_slice.ensures.len) in
    record {
      shared = same_shared [] c.new.result.items c.let_go.new.sets _ c.self.inside.blocks.cells c.new.ensures.items items (c.let_go.ensures.shared c.self.inside.blocks.cells before);
      width = c.self.invariant.width;
    }

pub returns : goal.returns
returns c =
    let sizes = c.self.inside.sizes.items in
    let cells = c.self.inside.blocks.cells in
    let before = same_shared c.self.inside.held.items c.deref.result.now c.self.inside.sets.items c.as_mut_slice.result.now cells c.deref.ensures.value c.as_mut_slice.ensures.value c.self.invariant.shared in
    let items = with_items_is c.self.inside.sets c.let_go.new.sets (c.let_go.auto.sets ∙ c.as_mut_slice.ensures.len) in
    let dues = ap (map (due_of c.let_go.new.sets)) c.new.ensures.items in
    ap (λ (l : List Held). kept_rows sizes (map (row_of l sizes) cells) (map (due_of l) c.new.result.items)) items
    ∙ ap (kept_rows sizes (map (row_of c.let_go.new.sets sizes) cells)) dues
    ∙ ap (λ l. kept_rows sizes l []) (c.let_go.ensures.rows cells sizes before ∙ ap (λ (l : List Held). map (row_of l sizes) cells) c.as_mut_slice.ensures.value)
    ∙ ap (λ (r : Rows). kept_rows r.sizes r.rows []) c.self.view_is
