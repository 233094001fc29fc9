use Rattle.std.proofs.Common.{◌≡◌, ◌∙◌, List, sym, ap, subst}
use Rattle.std.specs.Prelude.{flat_map}
use Rattle.std.proofs.lemmas.Result.{on_ok_weaker}
use Rattle.dv_model.specs.declared.types.Item.{Item}
use Rattle.dv_model.specs.declared.types.Shown.{Shown}
use Rattle.dv_model.specs.Sessions.{fetch_lines}
use Rattle.dv_model.specs.Sets.{named}
use Rattle.dv_responses.proofs.Lines.{fetched}
use Rattle.dv_responses.specs.Fetched.{AreFetched}
use Rattle.dv_responses.specs.Rows.{rows_at}
use Rattle.dv_responses.proofs.fetching.add_fetch_lines.Goals as goal

pub returns-clause-ok : goal.returns-clause-ok
returns-clause-ok g c = λ mail supplied.
    let m = c.args.live.now.mailbox in
    let view = c.args.view.now in
    let items = c.args.items.now in
    let facts = c.args.facts.now in
    let wanted = named c.args.by_uid c.args.set.now view in
    let same : c.as_slice-2.result.now ≡ items = c.as_slice-2.ensures in
    let all : rows_at c.as_slice-rows.result.now c.as_slice.result.now ≡ wanted =
    ap (λ (rs : List Shown). rows_at rs c.as_slice.result.now) (c.as_slice-rows.ensures ∙ c.rows.ensures.is) ∙ ap (rows_at view.rows) c.as_slice.ensures ∙ c.in_ok-numbers.ensures.is in
    let known = subst (λ (is : List Item). AreFetched mail m is facts (rows_at c.as_slice-rows.result.now c.as_slice.result.now)) (sym same)
    (subst (AreFetched mail m items facts) (sym all) (fetched mail c.args.by_uid c.args.set.now items view m facts supplied)) in
    on_ok_weaker c.add_lines.result
    (λ made. made ∙ ap (λ (is : List Item). g.R.Replies.with c.args.lines.now (flat_map (fetch_lines mail m is) (rows_at c.as_slice-rows.result.now c.as_slice.result.now))) same ∙ ap (λ rs. g.R.Replies.with c.args.lines.now (flat_map (fetch_lines mail m items) rs)) all)
    (c.add_lines.ensures.ok mail known)

pub returns-clause-err : goal.returns-clause-err
returns-clause-err g c = λ mail supplied.
    let m = c.args.live.now.mailbox in
    let view = c.args.view.now in
    let items = c.args.items.now in
    let facts = c.args.facts.now in
    let wanted = named c.args.by_uid c.args.set.now view in
    let same : c.as_slice-2.result.now ≡ items = c.as_slice-2.ensures in
    let all : rows_at c.as_slice-rows.result.now c.as_slice.result.now ≡ wanted =
    ap (λ (rs : List Shown). rows_at rs c.as_slice.result.now) (c.as_slice-rows.ensures ∙ c.rows.ensures.is) ∙ ap (rows_at view.rows) c.as_slice.ensures ∙ c.in_ok-numbers.ensures.is in
    let known = subst (λ (is : List Item). AreFetched mail m is facts (rows_at c.as_slice-rows.result.now c.as_slice.result.now)) (sym same)
    (subst (AreFetched mail m items facts) (sym all) (fetched mail c.args.by_uid c.args.set.now items view m facts supplied)) in
    c.add_lines.ensures.err mail known
