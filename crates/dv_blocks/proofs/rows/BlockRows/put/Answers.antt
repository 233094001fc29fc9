use Rattle.std.proofs.Common.{◌∙◌, [], List, ap, map}
use Rattle.std.specs.Prelude.{fold}
use Rattle.std.proofs.lemmas.List.{with_items_is}
use Rattle.dv_blocks.specs.Shared.{Rows, due_of, row_of, with_due}
use Rattle.dv_blocks.specs.declared.chunk.Pending.{Pending}
use Rattle.dv_blocks.specs.declared.sets.Held.{Held}
use Rattle.dv_blocks.proofs.Seen.{kept_rows, same_shared}
use Rattle.dv_blocks.proofs.rows.BlockRows.put.Goals as goal

pub put_rows-requires : goal.put_rows-requires
put_rows-requires c = same_shared c.self.inside.held.items c.deref.result.now c.self.inside.sets.items c.as_mut_slice.result.now c.self.inside.blocks.cells c.deref.ensures.value c.as_mut_slice.ensures.value c.self.invariant.shared

pub invariant_of-self : goal.invariant_of-self
invariant_of-self c =
    let before = same_shared c.self.inside.held.items c.deref.result.now c.self.inside.sets.items c.as_mut_slice.result.now c.self.inside.blocks.cells c.deref.ensures.value c.as_mut_slice.ensures.value c.self.invariant.shared in
    let items = with_items_is c.self.inside.sets c.put_rows.new.sets (c.put_rows.auto.sets ∙ c.as_mut_slice.ensures.len) in
    record {
      shared = same_shared [] c.new.result.items c.put_rows.new.sets _ c.put_rows.new.blocks.cells c.new.ensures.items items (c.put_rows.ensures.shared);
      width = c.put_rows.ensures.width ∙ c.self.invariant.width;
    }

pub returns : goal.returns
returns c =
    let sizes = c.self.inside.sizes.items in
    let cells = c.self.inside.blocks.cells in
    let m = c.args.modseq in
    let items = with_items_is c.self.inside.sets c.put_rows.new.sets (c.put_rows.auto.sets ∙ c.as_mut_slice.ensures.len) in
    let dues = ap (map (due_of c.put_rows.new.sets)) c.new.ensures.items in
    ap (λ (l : List Held). kept_rows sizes (map (row_of l sizes) c.put_rows.new.blocks.cells) (map (due_of l) c.new.result.items)) items
    ∙ ap (kept_rows sizes (map (row_of c.put_rows.new.sets sizes) c.put_rows.new.blocks.cells)) dues
    ∙ ap (λ l. kept_rows sizes l []) (c.put_rows.ensures.rows sizes
    ∙ ap (λ (l : List Held). fold (with_due m) (map (row_of l sizes) cells) (map (due_of l) c.deref.result.now)) c.as_mut_slice.ensures.value
    ∙ ap (λ (k : List Pending). fold (with_due m) (map (row_of c.self.inside.sets.items sizes) cells) (map (due_of c.self.inside.sets.items) k)) c.deref.ensures.value)
    ∙ ap (λ (r : Rows). kept_rows r.sizes (fold (with_due m) r.rows r.held) []) c.self.view_is
