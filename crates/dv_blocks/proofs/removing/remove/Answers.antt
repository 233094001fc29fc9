use Rattle.std.proofs.Common.{◌≡◌, ◌∙◌, ◌<◌, ◌^◌, ap, arith, length, rules, subst, sym, true}
use Rattle.std.specs.Prelude.{All, filter, map}
use Rattle.std.proofs.lemmas.List.{with_items_is}
use Rattle.dv_blocks.specs.Chunks.{AreBlocks, cells_of, has_rows, left_from, lowered, starts_from}
use Rattle.dv_blocks.specs.declared.chunk.Chunk.{Chunk}
use Rattle.dv_blocks.proofs.Coming.{few}
use Rattle.dv_blocks.proofs.Leaving.{are_closed, are_left, cells_kept, cells_left, left_long, lowered_starts, rising_cells, same_blocks, up_to}
use Rattle.dv_blocks.proofs.Starts.{as_many}
use Rattle.dv_blocks.proofs.removing.remove.Goals as goal

pub count-requires-clause-few : goal.count-requires-clause-few
count-requires-clause-few c =
    let small : length (cells_of c.args.chunks.now.items) < 2 ^ 32 = few c.args.chunks.now.items c.requires.are.1.are.rising in
    let same : length (cells_of c.deref-2.result.now) ≡ length (cells_of c.args.chunks.now.items) = ap (λ l. length (cells_of l)) c.deref-2.ensures.value in
    omega arith

pub overflow_cast-from : goal.overflow_cast-from
overflow_cast-from c =
    let small : length (cells_of c.args.chunks.now.items) < 2 ^ 32 = few c.args.chunks.now.items c.requires.are.1.are.rising in
    let count : c.count.result ≡ length (cells_of c.args.chunks.now.items) = c.count.ensures ∙ ap (λ l. length (cells_of l)) c.deref-2.ensures.value in
    let less = c.if-from-to.false in
    let is = c.min-to.ensures in
    let fits : c.args.from < 2 ^ 32 = omega arith in
    search rules

pub overflow_cast-to : goal.overflow_cast-to
overflow_cast-to c =
    let small : length (cells_of c.args.chunks.now.items) < 2 ^ 32 = few c.args.chunks.now.items c.requires.are.1.are.rising in
    let count : c.count.result ≡ length (cells_of c.args.chunks.now.items) = c.count.ensures ∙ ap (λ l. length (cells_of l)) c.deref-2.ensures.value in
    let is = c.min-to.ensures in
    let fits : c.min-to.result < 2 ^ 32 = omega arith in
    search rules

pub returns-then-remove_rows-clause-cells : goal.returns-then-remove_rows-clause-cells
returns-then-remove_rows-clause-cells c =
    let cs = c.args.chunks.now.items in
    let less = c.if-from-to.false in
    let back = with_items_is c.args.chunks.now c.remove_rows.new.chunks (c.remove_rows.auto.chunks ∙ c.as_mut_slice.ensures.len) in
    let count : c.count.result ≡ length (cells_of cs) = c.count.ensures ∙ ap (λ l. length (cells_of l)) c.deref-2.ensures.value in
    let is = c.min-to.ensures in
    ap cells_of (back ∙ c.remove_rows.ensures.is ∙ ap (left_from c.args.from c.min-to.result) c.as_mut_slice.ensures.value) ∙ cells_left c.args.from c.min-to.result cs (omega arith)
    ∙ up_to (cells_of cs) c.args.from c.args.to c.min-to.result (omega arith) (omega arith)

pub returns-then-remove_rows-clause-are : goal.returns-then-remove_rows-clause-are
returns-then-remove_rows-clause-are c w are =
    let cs = c.args.chunks.now.items in
    let ns = c.args.starts.now.items in
    let i = c.args.from in
    let j = c.min-to.result in
    let less = c.if-from-to.false in
    let back = with_items_is c.args.chunks.now c.remove_rows.new.chunks (c.remove_rows.auto.chunks ∙ c.as_mut_slice.ensures.len) in
    let chunks : c.remove_rows.new.chunks ≡ left_from i j cs = c.remove_rows.ensures.is ∙ ap (left_from i j) c.as_mut_slice.ensures.value in
    let again = with_items_is c.args.starts.now c.lower.new.starts (c.lower.auto.starts ∙ c.as_mut_slice-then-remove_rows.ensures.len) in
    let starts = again ∙ c.lower.ensures ∙ ap (map (lowered i j)) c.as_mut_slice-then-remove_rows.ensures.value in
    let filled : All (λ (x : Chunk). has_rows x ≡ true) (left_from i j cs) = subst (All (λ (x : Chunk). has_rows x ≡ true)) chunks (c.remove_rows.ensures.filled c.if-remove_rows.true) in
    same_blocks w (map (lowered i j) ns) _ (left_from i j cs) _ starts (back ∙ chunks)
    (record {
      counted = lowered_starts i j ns cs (omega arith) are.counted;
      are = are_left w i j cs (omega arith) are.are filled;
    })

pub close-requires-clause-many : goal.close-requires-clause-many
close-requires-clause-many c =
    let cs = c.args.chunks.now.items in
    let back = with_items_is c.args.chunks.now c.remove_rows.new.chunks (c.remove_rows.auto.chunks ∙ c.as_mut_slice.ensures.len) in
    let long = ap length (back ∙ c.remove_rows.ensures.is ∙ ap (left_from c.args.from c.min-to.result) c.as_mut_slice.ensures.value) ∙ left_long c.args.from c.min-to.result cs in
    let many = as_many c.args.starts.now.items cs c.requires.are.1.counted in
    omega arith

pub close-requires-clause-few : goal.close-requires-clause-few
close-requires-clause-few c =
    let cs = c.args.chunks.now.items in
    let less = c.if-from-to.false in
    let back = with_items_is c.args.chunks.now c.remove_rows.new.chunks (c.remove_rows.auto.chunks ∙ c.as_mut_slice.ensures.len) in
    let is = back ∙ c.remove_rows.ensures.is ∙ ap (left_from c.args.from c.min-to.result) c.as_mut_slice.ensures.value in
    let small : length (cells_of (left_from c.args.from c.min-to.result cs)) < 2 ^ 32 = few (left_from c.args.from c.min-to.result cs) (rising_cells c.args.from c.min-to.result cs (omega arith) c.requires.are.1.are.rising) in
    let same = ap (λ l. length (cells_of l)) is in
    omega arith

pub returns-clause-cells : goal.returns-clause-cells
returns-clause-cells c =
    let cs = c.args.chunks.now.items in
    let less = c.if-from-to.false in
    let back = with_items_is c.args.chunks.now c.remove_rows.new.chunks (c.remove_rows.auto.chunks ∙ c.as_mut_slice.ensures.len) in
    let chunks = back ∙ c.remove_rows.ensures.is ∙ ap (left_from c.args.from c.min-to.result) c.as_mut_slice.ensures.value in
    let count : c.count.result ≡ length (cells_of cs) = c.count.ensures ∙ ap (λ l. length (cells_of l)) c.deref-2.ensures.value in
    let is = c.min-to.ensures in
    ap cells_of (c.close.ensures.chunks ∙ ap (filter has_rows) chunks) ∙ cells_kept (left_from c.args.from c.min-to.result cs) ∙ cells_left c.args.from c.min-to.result cs (omega arith)
    ∙ up_to (cells_of cs) c.args.from c.args.to c.min-to.result (omega arith) (omega arith)

pub returns-clause-are : goal.returns-clause-are
returns-clause-are c w are =
    let cs = c.args.chunks.now.items in
    let i = c.args.from in
    let j = c.min-to.result in
    let less = c.if-from-to.false in
    let back = with_items_is c.args.chunks.now c.remove_rows.new.chunks (c.remove_rows.auto.chunks ∙ c.as_mut_slice.ensures.len) in
    let chunks = back ∙ c.remove_rows.ensures.is ∙ ap (left_from i j) c.as_mut_slice.ensures.value in
    let made = c.close.ensures.chunks ∙ ap (filter has_rows) chunks in
    let starts = c.close.ensures.starts ∙ ap (λ l. starts_from 0 (filter has_rows l)) chunks in
    subst (AreBlocks w c.close.new.starts.items) (sym made) (record { counted = starts; are = are_closed w i j cs (omega arith) are.are })
