use Rattle.std.proofs.Common.{List, subst, arith}
use Rattle.dv_logfile.proofs.Settling.{settled_then}
use Rattle.dv_serving.specs.Faults.{faults_between}
use Rattle.dv_serving.specs.Outputs.{output_of}
use Rattle.dv_mdbox_lines.specs.Scripts.{Call}
use Rattle.dv_mdbox_lines.specs.Views.{calls_left, said}
use Rattle.dv_mdbox_serving.specs.Runs.{Serves, end_behind}
use Rattle.dv_mdbox_serving.proofs.InTurn.{ServesTo, is_next, is_none, of_error, serves_all, serves_ended, serves_more, serves_none}
use Rattle.dv_mdbox_serving.proofs.serving.serve_calls.Goals as goal

pub loop-call-init : goal.loop-call-init
loop-call-init g c =
    let S = g.S.Shelf in
    let start = c.args.storage.now in
    record {
      serves = λ tells from base follows.
          serves_none S.sees from base (calls_left c.args.calls.now) g.O.Sink.sees.tells (g.O.Sink.sees.taken c.args.out.now) start follows (λ f left. g.met.S.Shelf.only_now start.shelf f tells left);
      settled = λ tells stayed settled. settled;
      later = omega arith;
      sink = omega arith;
    }

pub loop-call-preserved : goal.loop-call-preserved
loop-call-preserved g c =
    let S = g.S.Shelf in
    let O = g.O.Sink in
    let start = c.args.storage.now in
    let mid = c.loop-call.storage in
    let new = c.serve_call.new.storage in
    let inv = c.loop-call.invariant in
    let served = c.in_ok-serve_call.ensures in
    let next = is_next (calls_left c.loop-call.calls) (calls_left c.next.new.self) c.next.result c.in-Some.call c.in-Some.is c.next.ensures in
    record {
      serves = λ tells from base follows.
          let so_far = subst (λ (left : List Call). ServesTo S.sees from base (calls_left c.args.calls.now) O.sees.tells (O.sees.taken c.args.out.now) start left (O.sees.taken c.loop-call.out) mid) next (inv.serves tells from base follows) in
          serves_more S.sees from base (calls_left c.args.calls.now) O.sees.tells (O.sees.taken c.args.out.now) start (said c.in-Some.call) (calls_left c.next.new.self) (O.sees.taken c.loop-call.out) (O.sees.taken c.serve_call.new.out) mid new so_far (g.met.S.Shelf.leaves_files new.shelf tells)
          (served.runs tells from base so_far.answered so_far.follows);
      settled = λ tells. settled_then S.sees start.shelf mid.shelf new.shelf inv.later served.later (inv.settled tells) (served.settled tells);
      later = let one = inv.later in let two = served.later in omega (arith, one, two);
      sink = let one = inv.sink in let two = served.sink in omega (arith, one, two);
    }

-- ---- all are answered

pub returns-clause-serves : goal.returns-clause-serves
returns-clause-serves g c = λ tells from base follows.
    let S = g.S.Shelf in
    let O = g.O.Sink in
    let left = calls_left c.loop-call.calls in
    let none = is_none left (calls_left c.next.new.self) c.next.result c.in_default.is c.next.ensures in
    serves_all S.sees from base (calls_left c.args.calls.now) O.sees.tells (O.sees.taken c.args.out.now) c.args.storage.now left (O.sees.taken c.loop-call.out) c.loop-call.storage none (c.loop-call.invariant.serves tells from base follows)

-- ---- a call ends the run

pub returns-in_err-serve_call-clause-serves : goal.returns-in_err-serve_call-clause-serves
returns-in_err-serve_call-clause-serves g c = λ tells from base follows.
    let S = g.S.Shelf in
    let O = g.O.Sink in
    let start = c.args.storage.now in
    let mid = c.loop-call.storage in
    let new = c.serve_call.new.storage in
    let all = calls_left c.args.calls.now in
    let next = is_next (calls_left c.loop-call.calls) (calls_left c.next.new.self) c.next.result c.in-Some.call c.in-Some.is c.next.ensures in
    let so_far = subst (λ (left : List Call). ServesTo S.sees from base all O.sees.tells (O.sees.taken c.args.out.now) start left (O.sees.taken c.loop-call.out) mid) next (c.loop-call.invariant.serves tells from base follows) in
    of_error (λ r. Serves S.sees from (faults_between base (S.sees.fault_count new.shelf)) all (end_behind r new) (output_of O.sees c.args.out.now c.serve_call.new.out) start new)
    c.from_residual.result c.in_err-serve_call.field-0.0 c.from_residual.ensures.0 c.from_residual.ensures.1
    (serves_ended S.sees from base all O.sees.tells (O.sees.taken c.args.out.now) start (said c.in-Some.call) (calls_left c.next.new.self) (O.sees.taken c.loop-call.out) (O.sees.taken c.serve_call.new.out) mid new so_far (g.met.S.Shelf.leaves_files new.shelf tells) c.in_err-serve_call.field-0.0
    (c.in_err-serve_call.ensures.runs tells from base so_far.answered so_far.follows))

pub returns-in_err-serve_call-clause-settled : goal.returns-in_err-serve_call-clause-settled
returns-in_err-serve_call-clause-settled g c = λ tells.
    let S = g.S.Shelf in
    let inv = c.loop-call.invariant in
    let served = c.in_err-serve_call.ensures in
    settled_then S.sees c.args.storage.now.shelf c.loop-call.storage.shelf c.serve_call.new.storage.shelf inv.later served.later (inv.settled tells) (served.settled tells)
