use Rattle.std.proofs.Common.{◌≤◌, ◌+◌, ◌++◌, ◌∙◌, ℕ, ap, arith, length, sym, take}
use Rattle.dv_streams.proofs.Parts.{cut_counted, more_taken, ok_bound, took}
use Rattle.dv_streams.proofs.output.WriteStreamSink.write_all.Goals as goal
use Rattle.dv_streams.proofs.output.WriteStreamSink.write_all.Goals.{in-Ok, in-Err-Interrupted}

pub loop-preserved : goal.loop-preserved
loop-preserved g c =
    let C = g.C.WriteCalls in
    let first = c.args.self.now.calls in
    let old = c.loop.self.calls in
    let new = c.write.new.self in
    let bytes = c.args.bytes.now in
    let rest = c.split_at.result.1.now in
    let before = c.loop.invariant in
    elim c.match-write.branch [
      | in-Ok w ↦
          let n = w.in-Ok.count in
          let is = w.in-Ok.is in
          let some : 1 ≤ n = omega (arith, w.in-Ok.count-test.1) in
          let bound : c.loop.done + n ≤ length bytes = ok_bound c.write.result n rest bytes c.loop.done is c.write.ensures.bound c.split_at.ensures.back before.within in
          record {
            within = omega (arith, bound, w.done-is);
            faults = before.faults;
            taken = λ tells. more_taken (C.taken first) (C.taken old) (C.taken new) rest bytes c.loop.done n c.match-write.done c.split_at.ensures.back (before.taken tells) (took (C.taken old) (C.taken new) rest c.write.result n is (c.write.ensures.bytes tells)).0 w.done-is;
            failures = λ tells. (w.in-Ok.ensures.counted tells).0 ∙ before.failures tells;
            calls = λ tells. omega (arith, before.calls tells, (w.in-Ok.ensures.counted tells).1, w.done-is, some);
          }
      | in-Err-Interrupted w ↦
          record {
            within = omega (arith, before.within, w.done-is);
            faults = before.faults;
            taken = λ tells. w.in-Err-Interrupted.ensures.bytes tells ∙ before.taken tells ∙ ap (λ (k : ℕ). C.taken first ++ take k bytes) (sym w.done-is);
            failures = λ tells. (cut_counted (C.failures old) (C.failures new) (C.interruptions old) (C.interruptions new) w.in-Err-Interrupted.field-0 w.in-Err-Interrupted.field-0-is (w.in-Err-Interrupted.ensures.counted tells)).0 ∙ before.failures tells;
            calls = λ tells. omega (arith, before.calls tells, (cut_counted (C.failures old) (C.failures new) (C.interruptions old) (C.interruptions new) w.in-Err-Interrupted.field-0 w.in-Err-Interrupted.field-0-is (w.in-Err-Interrupted.ensures.counted tells)).1, w.done-is);
          }
    ]
