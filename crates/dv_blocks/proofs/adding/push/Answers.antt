use Rattle.std.proofs.Common.{◌≡◌, ◌∙◌, ◌+◌, ◌-◌, ◌<◌, ◌^◌, ◌++◌, ◌∷◌, [], ap, arith, length, refl, rules, subst, sym}
use Rattle.std.proofs.lemmas.List.{with_items_is}
use Rattle.std.proofs.lemmas.Result.{on_ok_weaker}
use Rattle.dv_model.specs.Effects.{with_item}
use Rattle.dv_blocks.specs.Chunks.{AreBlocks, cell_of, cells_of, with_rows}
use Rattle.dv_blocks.proofs.Coming.{are_last, are_new, cells_last, chunk_of, counted_new, few, few_more, no_chunk, starts_last}
use Rattle.dv_blocks.proofs.adding.push.Goals as goal

pub push_last-requires-clause-few : goal.push_last-requires-clause-few
push_last-requires-clause-few c =
    let small : length (cells_of c.args.chunks.now.items) + 1 < 2 ^ 32 =
    few_more c.args.chunks.now.items (cell_of c.args.row c.args.part.now) c.requires.above c.requires.below c.requires.are.are.rising in
    let same : length (cells_of c.as_mut_slice.result.now) ≡ length (cells_of c.args.chunks.now.items) = ap (λ l. length (cells_of l)) c.as_mut_slice.ensures.value in
    omega arith

pub returns-then-has_room-clause-cells : goal.returns-then-has_room-clause-cells
returns-then-has_room-clause-cells c =
    let cs = c.args.chunks.now.items in
    let row = cell_of c.args.row c.args.part.now in
    let some : 0 < length c.deref.result.now = c.has_room.ensures c.if-has_room.true in
    let many : length c.deref.result.now ≡ length cs = ap length c.deref.ensures.value in
    let last : length cs - 1 + 1 ≡ length cs = omega arith in
    let back = with_items_is c.args.chunks.now c.push_last.new.chunks (c.push_last.auto.chunks ∙ c.as_mut_slice.ensures.len) in
    on_ok_weaker c.push_last.result
    (λ is. ap cells_of (back ∙ is ∙ ap (λ l. with_item (length l - 1) (with_rows (λ cells. cells ++ row ∷ [])) l) c.as_mut_slice.ensures.value) ∙ cells_last row cs (length cs - 1) last)
    c.push_last.ensures.ok

pub returns-then-has_room-clause-are : goal.returns-then-has_room-clause-are
returns-then-has_room-clause-are c =
    let cs = c.args.chunks.now.items in
    let row = cell_of c.args.row c.args.part.now in
    let some : 0 < length c.deref.result.now = c.has_room.ensures c.if-has_room.true in
    let many : length c.deref.result.now ≡ length cs = ap length c.deref.ensures.value in
    let last : length cs - 1 + 1 ≡ length cs = omega arith in
    let back = with_items_is c.args.chunks.now c.push_last.new.chunks (c.push_last.auto.chunks ∙ c.as_mut_slice.ensures.len) in
    on_ok_weaker c.push_last.result
    (λ is. subst (AreBlocks (length c.args.part.now) c.args.starts.now.items) (sym (back ∙ is ∙ ap (λ l. with_item (length l - 1) (with_rows (λ cells. cells ++ row ∷ [])) l) c.as_mut_slice.ensures.value))
    (record {
      counted = c.requires.are.counted ∙ sym (starts_last (with_rows (λ cells. cells ++ row ∷ [])) 0 cs (length cs - 1) last);
      are = are_last (length c.args.part.now) row cs (length cs - 1) no_chunk last c.requires.above c.requires.below c.requires.are.are;
    }))
    c.push_last.ensures.ok

pub count-start-requires-clause-few : goal.count-start-requires-clause-few
count-start-requires-clause-few c =
    let small : length (cells_of c.args.chunks.now.items) < 2 ^ 32 = few c.args.chunks.now.items c.requires.are.are.rising in
    let same : length (cells_of c.deref-3.result.now) ≡ length (cells_of c.args.chunks.now.items) = ap (λ l. length (cells_of l)) c.deref-3.ensures.value in
    omega arith

pub overflow_cast-start : goal.overflow_cast-start
overflow_cast-start c =
    let small : length (cells_of c.args.chunks.now.items) < 2 ^ 32 = few c.args.chunks.now.items c.requires.are.are.rising in
    let same : length (cells_of c.deref-3.result.now) ≡ length (cells_of c.args.chunks.now.items) = ap (λ l. length (cells_of l)) c.deref-3.ensures.value in
    let is = c.count-start.ensures in
    let less : c.count-start.result < 2 ^ 32 = omega arith in
    search rules

pub returns-clause-are : goal.returns-clause-are
returns-clause-are c =
    let cs = c.args.chunks.now.items in
    let ns = c.args.starts.now.items in
    let start : c.count-start.result ≡ length (cells_of cs) = c.count-start.ensures ∙ ap (λ l. length (cells_of l)) c.deref-3.ensures.value in
    let made = chunk_of c.args.row c.args.part.now in
    let starts : c.push_reserved.new.self.items ≡ ns ++ c.count-start.result ∷ [] = c.push_reserved.ensures.items ∙ ap (λ l. l ++ c.count-start.result ∷ []) c.in_ok-reserve.ensures.items in
    subst (λ l. AreBlocks (length c.args.part.now) l c.push_block.new.chunks.items) (sym starts)
    (subst (AreBlocks (length c.args.part.now) (ns ++ c.count-start.result ∷ [])) (sym c.in_ok-push_block.ensures.ok)
    (record {
      counted = counted_new ns cs made c.count-start.result c.requires.are.counted start;
      are = are_new (length c.args.part.now) cs made (cell_of c.args.row c.args.part.now) refl refl refl c.requires.above c.requires.below c.requires.are.are;
    }))
