use Rattle.std.proofs.Common.{◌<◌, ◌+◌, length, ap, arith, subst, sym, ◌∙◌, length-drop}
use Rattle.std.proofs.lemmas.List.{length_push}
use Rattle.std.proofs.lemmas.Result.{err_from_is_err_and}
use Rattle.dv_formats.specs.SnapshotFaults.{IsRecord, version_at, word_at}
use Rattle.dv_index.proofs.Ends.{check_weaker}
use Rattle.dv_index.proofs.Headers.{next_place}
use Rattle.dv_index.proofs.Records.{no_records, record_is, records_more, room}
use Rattle.dv_index.proofs.reading.records.read_records.Goals as goal

pub split_at-requires : goal.split_at-requires
split_at-requires c =
    let below : c.loop.counter < word_at 32 c.args.b.now = omega (arith, c.u32_at-count.ensures, c.loop-test.true) in
    let inside = room (word_at 8 c.args.b.now) c.loop.counter (word_at 32 c.args.b.now) below in
    omega (arith, inside, c.loop.invariant.place, c.requires.long)

pub split_at-requires-in-loop : goal.split_at-requires-in-loop
split_at-requires-in-loop c =
    let below : c.loop.counter < word_at 32 c.args.b.now = omega (arith, c.u32_at-count.ensures, c.loop-test.true) in
    let inside = room (word_at 8 c.args.b.now) c.loop.counter (word_at 32 c.args.b.now) below in
    omega (arith, inside, c.loop.invariant.place, c.requires.long, ap length c.split_at.ensures.back, length-drop c.loop.at c.args.b.now, c.u32_at-size.ensures)

pub returns-in_err-read_record-clause-check : goal.returns-in_err-read_record-clause-check
returns-in_err-read_record-clause-check c =
    let p = err_from_is_err_and c.from_residual-in_err-read_record.result c.from_residual-in_err-read_record.ensures.1 in
    let below : c.loop.counter < word_at 32 c.args.b.now = omega (arith, c.u32_at-count.ensures, c.loop-test.true) in
    let here = record_is c.loop.counter c.loop.at c.u32_at-size.result c.args.b.now c.split_at.result.1.now c.split_at-in-loop.result.0.now c.loop.invariant.place c.u32_at-size.ensures c.split_at.ensures.back c.split_at-in-loop.ensures.front in
    rw (p.1, p.2)
    (check_weaker c.in_err-read_record.field-0.0 6 _ _
    (λ none. no_records c.args.head.now c.args.b.now c.loop.counter below (λ row is. none row (subst (IsRecord (version_at c.args.b.now) c.args.head.now row) (sym here) is))) c.in_err-read_record.ensures.check)

pub loop-preserved : goal.loop-preserved
loop-preserved c =
    let here = record_is c.loop.counter c.loop.at c.u32_at-size.result c.args.b.now c.split_at.result.1.now c.split_at-in-loop.result.0.now c.loop.invariant.place c.u32_at-size.ensures c.split_at.ensures.back c.split_at-in-loop.ensures.front in
    record {
      place = next_place c.loop.counter c.args.b.now c.loop.at c.u32_at-size.result c.loop.invariant.place c.u32_at-size.ensures;
      counted = ap length c.in_ok-push.ensures.ok ∙ length_push c.loop.rows c.in_ok-read_record.field-0 ∙ ap (λ n. n + 1) c.loop.invariant.counted;
      each = records_more (version_at c.args.b.now) c.args.head.now c.loop.rows c.push.new.self c.in_ok-read_record.field-0 c.args.b.now c.loop.counter c.loop.invariant.counted c.loop.invariant.each
          (subst (IsRecord (version_at c.args.b.now) c.args.head.now c.in_ok-read_record.field-0) here c.in_ok-read_record.ensures.found) c.in_ok-push.ensures.ok;
    }
