use Rattle.std.proofs.Common.{refl}
use Rattle.dv_serving.specs.Outputs.{output_of}
use Rattle.dv_mdbox_lines.specs.Views.{said}
use Rattle.dv_mdbox_serving.specs.declared.ending.CallEnd.TheVariants as call_end
use Rattle.dv_mdbox_serving.specs.Calls.{RunsCall}
use Rattle.dv_mdbox_serving.proofs.InTurn.{of_error}
use Rattle.dv_mdbox_serving.proofs.serving.serve_call.Goals as goal

-- memory ended it
pub returns-in_err-answer-clause-runs : goal.returns-in_err-answer-clause-runs
returns-in_err-answer-clause-runs g c = λ tells start base calls follows.
    let S = g.S.Shelf in
    of_error (λ r. RunsCall S.sees start base calls (said c.args.call) r (output_of g.O.Sink.sees c.args.out.now c.args.out.now) c.args.storage.now c.answer_call.new.storage)
    c.from_residual.result call_end.NoMemory c.from_residual.ensures.0 c.from_residual.ensures.1
    (c.in_err-answer.ensures.called tells start base calls follows, λ told. refl)

-- it was answered
pub returns-in-Ok-clause-runs : goal.returns-in-Ok-clause-runs
returns-in-Ok-clause-runs g c = λ tells start base calls follows. record {
  told = c.in_ok-answer.answer;
  called = c.in_ok-answer.ensures.called tells start base calls follows;
  logs = c.in_ok-answer.ensures.logs;
  purges = let k = follows.keeps in c.in_ok-answer.ensures.purges tells k.messages k.debt k.rests;
  output = λ told. c.in-Ok.ensures.ok told;
}

-- or the output failed
pub returns-clause-runs : goal.returns-clause-runs
returns-clause-runs g c = λ tells start base calls follows. record {
  told = c.in_ok-answer.answer;
  called = c.in_ok-answer.ensures.called tells start base calls follows;
  logs = c.in_ok-answer.ensures.logs;
  purges = let k = follows.keeps in c.in_ok-answer.ensures.purges tells k.messages k.debt k.rests;
  output = λ told. c.in-Err.ensures.err told;
}
