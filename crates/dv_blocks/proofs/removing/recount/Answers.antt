use Rattle.std.proofs.Common.{◌≡◌, ◌∙◌, ◌+◌, ◌^◌, ◌<◌, ◌≤◌, ◌++◌, ◌∷◌, [], ap, arith, get_or, length, rules, sym, take}
use Rattle.std.proofs.lemmas.List.{length-set, take_all, take_more, take_more_set}
use Rattle.dv_blocks.specs.Chunks.{cells_of, starts_from}
use Rattle.dv_blocks.specs.declared.chunk.Chunk.{Chunk}
use Rattle.dv_blocks.proofs.Coming.{starts_push}
use Rattle.dv_blocks.proofs.Found.{lies}
use Rattle.dv_blocks.proofs.Starts.{grows, next_start, whole}
use Rattle.dv_blocks.proofs.removing.recount.Goals as goal

pub overflow_cast-starts : goal.overflow_cast-starts
overflow_cast-starts c =
    let cs = c.args.chunks.now in
    let r = c.loop-at.invariant.rows in
    let most = grows cs c.loop-at.at (length cs) c.loop-at.invariant.inside in
    let all = whole cs (length cs) (omega arith) in
    let few = c.requires.few in
    let small : c.loop-at.rows < 2 ^ 32 = omega arith in
    search rules

pub overflow_add-rows : goal.overflow_add-rows
overflow_add-rows c =
    let cs = c.args.chunks.now in
    let at = c.loop-at.at in
    let x : Chunk = c.index-chunks-at.result in
    let less : at < length cs = c.loop-at-test.true in
    let count = c.len-rows.ensures in
    let within = lies cs at x less in
    let few = c.requires.few in
    let r = c.loop-at.invariant.rows in
    let small : c.loop-at.rows + c.len-rows.result < 2 ^ 32 = omega arith in
    search rules

pub loop-at-preserved : goal.loop-at-preserved
loop-at-preserved c =
    let cs = c.args.chunks.now in
    let at = c.loop-at.at in
    let x : Chunk = c.index-chunks-at.result in
    let less : at < length cs = c.loop-at-test.true in
    let inv = c.loop-at.invariant in
    let many = inv.many in
    let next = next_start cs at x less in
    let sum : c.loop-at.rows ≡ 0 + length (cells_of (take at cs)) = let r = inv.rows in omega arith in
    record {
      done = take_more_set c.loop-at.starts at c.loop-at.rows (omega arith) ∙ ap (λ l. l ++ c.loop-at.rows ∷ []) inv.done
          ∙ ap (λ n. starts_from 0 (take at cs) ++ n ∷ []) sum ∙ sym (starts_push 0 (take at cs) (get_or cs at x)) ∙ ap (starts_from 0) (sym (take_more cs at x less));
      rows = let r = inv.rows in let count = c.len-rows.ensures in omega arith;
      inside = omega arith;
      many = length-set c.loop-at.starts at c.loop-at.rows ∙ many;
    }

pub returns : goal.returns
returns c =
    let cs = c.args.chunks.now in
    let past : length cs ≤ c.loop-at.at = c.loop-at-test.false in
    let many = c.loop-at.invariant.many in
    sym (take_all c.loop-at.at c.loop-at.starts (omega arith)) ∙ c.loop-at.invariant.done ∙ ap (starts_from 0) (take_all c.loop-at.at cs past)
