use Rattle.std.proofs.Common.{◌≡◌, ◌∙◌, ap, subst, sym, Result, Ok, Err, OnErr}
use Rattle.std.proofs.lemmas.Result.{on_err_weaker}
use Rattle.dv_model.specs.Sessions.{data_of, uids_looked_at}
use Rattle.dv_model.specs.Views.{View}
use Rattle.dv_responses.specs.Supplied.{AreSupplied}
use Rattle.dv_view.proofs.TakenMore.{taken_more}
use Rattle.dv_answer.specs.Following.{Follower}
use Rattle.dv_answer.proofs.session.Session.answer.Goals as goal

pub returns-clause-answer : goal.returns-clause-answer
returns-clause-answer g c = λ mail met_mailbox met supplied.
    let with = g.R.Replies.with in
    let m = c.args.live.now.mailbox in
    let x = c.args.self.now.state in
    let command = c.args.c.now in
    let first = c.args.replies.now in
    let view : c.self.inside.view ≡ x.view = ap (λ (f : Follower). f.state.view) c.self.view_is in
    let here = subst (λ (v : View). AreSupplied mail command v m c.args.facts.now) (sym view) supplied in
    let looked : c.as_slice-uids.result.now ≡ uids_looked_at command x.view = c.as_slice-uids.ensures ∙ c.in_ok-looked_at.ensures ∙ ap (uids_looked_at command) view in
    let asked = c.in_ok-add_data_lines.ensures.ok mail here ∙ ap (λ r. with r (data_of mail command c.self.inside.view m)) c.expect.ensures ∙ ap (λ (v : View). with first (data_of mail command v m)) view in
    c.finish.ensures.answer mail met_mailbox first met (c.as_slice.ensures ∙ c.in_ok-damaged.ensures mail x.view looked supplied) asked

-- what holds behind any answer
on_err : {A E P : Type 0} (r : Result A E) → P → OnErr r P
on_err (Ok x) p = tt
on_err (Err e) p = p

pub returns-in_err-add_data_lines-clause-replies : goal.returns-in_err-add_data_lines-clause-replies
returns-in_err-add_data_lines-clause-replies g c = λ mail supplied.
    let with = g.R.Replies.with in
    let m = c.args.live.now.mailbox in
    let command = c.args.c.now in
    let view : c.self.inside.view ≡ c.args.self.now.state.view = ap (λ (f : Follower). f.state.view) c.self.view_is in
    let here = subst (λ (v : View). AreSupplied mail command v m c.args.facts.now) (sym view) supplied in
    let taken = c.in_err-add_data_lines.ensures.err mail here in
    on_err c.from_residual-in_err-add_data_lines.result (record { told = taken.told; is = taken.is ∙ ap (λ r. with r taken.told) c.expect.ensures })

pub returns-clause-replies : goal.returns-clause-replies
returns-clause-replies g c = λ mail supplied.
    let with = g.R.Replies.with in
    let m = c.args.live.now.mailbox in
    let command = c.args.c.now in
    let view : c.self.inside.view ≡ c.args.self.now.state.view = ap (λ (f : Follower). f.state.view) c.self.view_is in
    let here = subst (λ (v : View). AreSupplied mail command v m c.args.facts.now) (sym view) supplied in
    let lines = data_of mail command c.self.inside.view m in
    let asked = c.in_ok-add_data_lines.ensures.ok mail here ∙ ap (λ r. with r lines) c.expect.ensures in
    on_err_weaker c.finish.result (λ more. taken_more with g.met.R.Replies.more c.args.replies.now c.add_data_lines.new.lines c.finish.new.replies (record { told = lines; is = asked }) more) c.finish.ensures.replies
