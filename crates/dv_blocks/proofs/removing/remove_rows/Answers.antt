use Rattle.std.proofs.Common.{◌≡◌, ◌∙◌, ◌+◌, ◌-◌, ◌<◌, ◌≤◌, ap, arith, get_or, length, rules, set, sym, true}
use Rattle.std.proofs.lemmas.Bool.{lt-ltb}
use Rattle.std.proofs.lemmas.List.Elements.{All-set, All-weaker}
use Rattle.dv_blocks.specs.Chunks.{IsChunk, IsIn, has_rows, left_in}
use Rattle.dv_blocks.specs.declared.chunk.Chunk.{Chunk}
use Rattle.dv_blocks.proofs.Coming.{no_chunk}
use Rattle.dv_blocks.proofs.Leaving.{begins, ends, left_more, left_there}
use Rattle.dv_blocks.proofs.Starts.{grows, next_start}
use Rattle.dv_blocks.proofs.removing.remove_rows.Goals.{then-filled, else-filled}
use Rattle.dv_blocks.proofs.removing.remove_rows.Goals as goal

pub loop-at-init : goal.loop-at-init
loop-at-init c =
    let cs = c.args.chunks.now in
    let order = c.requires.order in
    let inside = c.requires.inside in
    let is : IsIn cs c.args.from c.place_in-first.result.0 c.place_in-first.result.1 = c.place_in-first.ensures cs c.requires.counted (omega arith) in
    let sum = is.sum in
    let block = is.inside in
    record {
      done = begins c.requires.are.0 c.args.from c.args.to c.place_in-first.result.0 cs (omega arith) c.requires.are.1.each (omega arith);
      low = omega arith;
      high = omega arith;
      inside = omega arith;
      filled = λ e. All-weaker (IsChunk c.requires.are.0) (λ (x : Chunk). has_rows x ≡ true) (λ x one. lt-ltb 0 (length x.block.cells) one.filled) cs c.requires.are.1.each;
    }

pub loop-at-preserved : goal.loop-at-preserved
loop-at-preserved c =
    let cs = c.args.chunks.now in
    let at = c.loop-at.at in
    let low = c.loop-at.low in
    let high = c.loop-at.high in
    let x : Chunk = c.index-chunks-at.result in
    let order = c.requires.order in
    let whole = c.requires.inside in
    let is : IsIn cs (c.args.to - 1) c.place_in-last.result.0 c.place_in-last.result.1 = c.place_in-last.ensures cs c.requires.counted (omega arith) in
    let block = is.inside in
    let test = c.loop-at-test.true in
    let less : at < length cs = omega arith in
    let inv = c.loop-at.invariant in
    let there = left_there c.args.from c.args.to at cs c.loop-at.chunks x less inv.done c.index-chunks-at.is in
    let next = next_start cs at x less in
    let same : length (get_or c.loop-at.chunks at x).block.cells ≡ length (get_or cs at x).block.cells = ap (λ (y : Chunk). length y.block.cells) (sym c.index-chunks-at.is ∙ there) in
    let rows = c.remove_from-rows.ensures.count in
    record {
      done = ap (λ y. set c.loop-at.chunks at y) (c.remove_from-rows.ensures.is ∙ ap (left_in low high) (sym c.index-chunks-at.is))
          ∙ left_more c.args.from c.args.to low high at cs c.loop-at.chunks x less inv.done inv.low inv.high c.index-chunks-at.is;
      low = let l = inv.low in let s = c.saturating_sub-low.ensures in omega arith;
      high = let h = inv.high in let s = c.saturating_sub-high.ensures in omega arith;
      inside = omega arith;
      filled = λ e. elim c.if-filled.branch [
        | then-filled w ↦ All-set (λ (y : Chunk). has_rows y ≡ true) c.loop-at.chunks at c.remove_from-rows.new.chunk (c.remove_from-rows.ensures.filled (sym w.filled-is ∙ e)) (inv.filled w.if-filled.true)
        | else-filled w ↦ let no = sym w.filled-is ∙ e in search rules
      ];
    }

pub returns-clause-is : goal.returns-clause-is
returns-clause-is c =
    let cs = c.args.chunks.now in
    let at = c.loop-at.at in
    let order = c.requires.order in
    let whole = c.requires.inside in
    let is : IsIn cs (c.args.to - 1) c.place_in-last.result.0 c.place_in-last.result.1 = c.place_in-last.ensures cs c.requires.counted (omega arith) in
    let block = is.inside in
    let sum = is.sum in
    let within = is.within no_chunk in
    let past : c.place_in-last.result.0 + 1 ≤ at = c.loop-at-test.false in
    let next = next_start cs c.place_in-last.result.0 no_chunk block in
    let more = grows cs (c.place_in-last.result.0 + 1) at past in
    c.loop-at.invariant.done ∙ ends c.requires.are.0 c.args.from c.args.to at cs (omega arith) c.requires.are.1.each (omega arith)
