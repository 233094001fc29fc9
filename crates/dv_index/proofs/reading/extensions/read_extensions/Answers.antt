use Rattle.std.proofs.lemmas.Result.{err_from_is_err_and}
use Rattle.dv_index.proofs.Ends.{check_weaker}
use Rattle.dv_index.proofs.Extensions.{no_text, texts_more}
use Rattle.dv_index.proofs.reading.extensions.read_extensions.Goals as goal

pub returns-in_err-extension-clause-check : goal.returns-in_err-extension-clause-check
returns-in_err-extension-clause-check c =
    let p = err_from_is_err_and c.from_residual.result c.from_residual.ensures.1 in
    rw (p.1, p.2)
    (check_weaker c.in_err-extension.field-0.0 2 _ _ (λ none all are. no_text c.args.count c.loop.counter c.loop.extensions c.loop.rest.now c.args.b.now c.loop-test.true c.loop.invariant none all are) c.in_err-extension.ensures.check)

pub loop-preserved : goal.loop-preserved
loop-preserved c =
    texts_more c.args.count c.loop.counter c.loop.extensions c.push.new.self c.in_ok-extension.extension c.loop.rest.now c.in_ok-extension.behind.now c.args.b.now c.loop-test.true c.loop.invariant
    c.in_ok-extension.ensures.found.0 c.in_ok-extension.ensures.found.1 c.in_ok-push.ensures.ok
