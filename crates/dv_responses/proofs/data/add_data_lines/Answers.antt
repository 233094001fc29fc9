use Rattle.std.proofs.Common.{◌∙◌, sym, ap, subst}
use Rattle.std.proofs.lemmas.Result.{on_ok_weaker}
use Rattle.dv_model.specs.declared.types.Command.{Command}
use Rattle.dv_model.specs.Sessions.{data_of}
use Rattle.dv_responses.specs.Supplied.{AreSupplied}
use Rattle.dv_responses.proofs.data.add_data_lines.Goals as goal

pub returns-in-Fetch-clause-ok : goal.returns-in-Fetch-clause-ok
returns-in-Fetch-clause-ok g c = λ mail supplied.
    let m = c.args.live.now.mailbox in
    let view = c.args.view.now in
    rw c.in-Fetch.is (c.add_fetch_lines.ensures.ok mail (subst (λ (cmd : Command). AreSupplied mail cmd view m c.args.facts.now) c.in-Fetch.is supplied))

pub returns-in-Fetch-clause-err : goal.returns-in-Fetch-clause-err
returns-in-Fetch-clause-err g c = λ mail supplied.
    c.add_fetch_lines.ensures.err mail (subst (λ (cmd : Command). AreSupplied mail cmd c.args.view.now c.args.live.now.mailbox c.args.facts.now) c.in-Fetch.is supplied)

pub returns-in_ok-line-in-Search-clause-ok : goal.returns-in_ok-line-in-Search-clause-ok
returns-in_ok-line-in-Search-clause-ok g c = λ mail supplied.
    let m = c.args.live.now.mailbox in
    let view = c.args.view.now in
    let line = c.in_ok-line-in-Search.ensures mail (subst (λ (cmd : Command). AreSupplied mail cmd view m c.args.facts.now) c.in-Search.is supplied) in
    on_ok_weaker c.take.result
    (λ e. e ∙ ap (g.R.Replies.with c.args.lines.now) (line ∙ ap (λ (cmd : Command). data_of mail cmd view m) (sym c.in-Search.is)))
    c.take.ensures.ok
