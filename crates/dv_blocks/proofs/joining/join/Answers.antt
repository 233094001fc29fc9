use Rattle.std.proofs.Common.{◌≡◌, ◌∙◌, ◌+◌, ◌++◌, List, ℕ, ap, arith, drop, get_or, length, refl, set, subst, suc, sym, take}
use Rattle.std.specs.List.{remove}
use Rattle.std.proofs.lemmas.List.{with_items_is}
use Rattle.dv_model.specs.Effects.{with_item}
use Rattle.dv_blocks.specs.Cells.{Cells}
use Rattle.dv_blocks.specs.Chunks.{AreBlocks, cells_of}
use Rattle.dv_blocks.specs.declared.chunk.Chunk.{Chunk}
use Rattle.dv_blocks.proofs.Coming.{no_chunk}
use Rattle.dv_blocks.proofs.Items.{item_is_set, with_block}
use Rattle.dv_blocks.proofs.Starts.{as_many}
use Rattle.dv_blocks.proofs.Two.{are_joined, cells_joined}
use Rattle.dv_blocks.proofs.joining.join.Goals as goal

pub remove_run-requires-clause-inside : goal.remove_run-requires-clause-inside
remove_run-requires-clause-inside c =
    let many = as_many c.args.starts.now.items c.args.chunks.now.items c.requires.1.counted in
    let inside = c.in-Some.ensures.0 in
    let value = ap length c.deref.ensures.value in
    omega arith

both : (cs ds : List Chunk) (at : ℕ) (made : Cells) → ds ≡ cs → made ≡ record { width = (get_or ds at no_chunk).block.width; cells = (get_or ds at no_chunk).block.cells ++ (get_or ds (at + 1) no_chunk).block.cells } → made.cells ≡ (get_or cs at no_chunk).block.cells ++ (get_or cs (suc at) no_chunk).block.cells
both cs ds at made e is =
    let next : at + 1 ≡ suc at = omega arith in
    ap (λ (s : Cells). s.cells) is ∙ ap (λ (l : List Chunk). (get_or l at no_chunk).block.cells ++ (get_or l (at + 1) no_chunk).block.cells) e
    ∙ ap (λ n. (get_or cs at no_chunk).block.cells ++ (get_or cs n no_chunk).block.cells) next

one_gone : (cs : List Chunk) (at : ℕ) → remove cs (at + 1) ≡ remove cs (suc at)
one_gone cs at = let next : at + 1 ≡ suc at = omega arith in ap (remove cs) next

pub returns-clause-cells : goal.returns-clause-cells
returns-clause-cells c =
    let cs = c.args.chunks.now.items in
    let at = c.args.at in
    let made = c.in-Some.made in
    let b = with_block made (get_or cs at no_chunk) in
    let inside = c.in-Some.ensures.0 in
    let value = ap length c.deref.ensures.value in
    let back = with_items_is c.args.chunks.now c.put_block.new.chunks (c.put_block.auto.chunks ∙ c.as_mut_slice.ensures.len) in
    let put = back ∙ c.put_block.ensures ∙ ap (with_item at (with_block made)) c.as_mut_slice.ensures.value ∙ item_is_set (with_block made) cs at no_chunk (omega arith) in
    ap cells_of (c.remove.ensures.items ∙ ap (λ l. remove l (at + 1)) put ∙ one_gone (set cs at b) at)
    ∙ cells_joined cs at b no_chunk (omega arith) (both cs c.deref.result.now at made c.deref.ensures.value (c.in-Some.ensures.1 no_chunk))

pub returns-clause-are : goal.returns-clause-are
returns-clause-are c w are =
    let cs = c.args.chunks.now.items in
    let ns = c.args.starts.now.items in
    let at = c.args.at in
    let made = c.in-Some.made in
    let b = with_block made (get_or cs at no_chunk) in
    let inside = c.in-Some.ensures.0 in
    let value = ap length c.deref.ensures.value in
    let back = with_items_is c.args.chunks.now c.put_block.new.chunks (c.put_block.auto.chunks ∙ c.as_mut_slice.ensures.len) in
    let put = back ∙ c.put_block.ensures ∙ ap (with_item at (with_block made)) c.as_mut_slice.ensures.value ∙ item_is_set (with_block made) cs at no_chunk (omega arith) in
    let chunks = c.remove.ensures.items ∙ ap (λ l. remove l (at + 1)) put ∙ one_gone (set cs at b) at in
    let first : at + 1 ≡ suc at = omega arith in
    let second : at + 2 ≡ suc (suc at) = omega arith in
    let starts = c.remove_run.ensures.items ∙ ap (λ n. take n ns ++ drop (at + 2) ns) first ∙ ap (λ n. take (suc at) ns ++ drop n ns) second in
    let wide = ap (λ (s : Cells). s.width) (c.in-Some.ensures.1 no_chunk) ∙ ap (λ (l : List Chunk). (get_or l at no_chunk).block.width) c.deref.ensures.value in
    subst (λ l. AreBlocks w l c.remove.new.self.items) (sym starts)
    (subst (AreBlocks w (remove ns (suc at))) (sym chunks)
    (are_joined w ns cs at b no_chunk (omega arith) refl wide (both cs c.deref.result.now at made c.deref.ensures.value (c.in-Some.ensures.1 no_chunk)) are))
