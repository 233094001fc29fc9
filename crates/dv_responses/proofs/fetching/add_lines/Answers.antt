use Rattle.std.proofs.Common.{◌≡◌, ◌∙◌, ◌++◌, ℕ, List, Some, None, Result, Ok, Err, OnErr, cond, get_or, take, sym, ap, subst}
use Rattle.std.specs.List.{list_any}
use Rattle.std.specs.Option.{option_copied}
use Rattle.std.specs.Prelude.{flat_map}
use Rattle.std.proofs.lemmas.List.{get_or_default, take_all}
use Rattle.dv_model.specs.declared.types.Shown.{Shown}
use Rattle.dv_model.specs.Sessions.{fetch_lines, reads_message}
use Rattle.dv_search.specs.Facts.{facts_of}
use Rattle.dv_responses.proofs.Lines.{line_is, lines_more, message_for, row_known}
use Rattle.dv_responses.specs.Fetched.{lines_from, no_facts}
use Rattle.dv_responses.specs.Rows.{row_at, rows_at}
use Rattle.dv_responses.specs.Supplied.{DescribesItems, Supplies}
use Rattle.dv_responses.proofs.fetching.add_lines.Goals as goal

pub loop-number-preserved : goal.loop-number-preserved
loop-number-preserved g c = λ mail known.
    let m = c.args.live.now.mailbox in
    let items = c.args.items.now in
    let rows = c.args.rows.now in
    let numbers = c.args.numbers.now in
    let facts = c.args.facts.now in
    let i = c.loop-number.number-index in
    let n = get_or numbers i 0 in
    let s = c.row_at-s.result.now in
    let less = c.loop-number-test.true in
    let is : n ≡ get_or numbers i n = get_or_default numbers i 0 n less in
    let same : s ≡ row_at rows n = c.row_at-s.ensures in
    let given : option_copied c.facts_for-known.result ≡ cond (list_any reads_message items) (facts_of facts s.uid) (Some no_facts) =
    c.facts_for-known.ensures ∙ ap (λ b. cond b (facts_of facts s.uid) (Some (record { uid = 0; size = 0; body = None; fields = c.new.result }))) c.reads_messages-reads.ensures
    ∙ ap (λ fields. cond (list_any reads_message items) (facts_of facts s.uid) (Some (record { uid = 0; size = 0; body = None; fields = fields }))) c.new.ensures in
    let supplied = subst (Supplies (DescribesItems items) (message_for mail m items s.uid)) (sym given) (row_known mail m items facts rows numbers known i n s.uid less is (ap (λ (s : Shown). s.uid) same)) in
    let f = fetch_lines mail m items in
    let with = g.R.Replies.with in
    let first = c.args.lines.now in
    let before = flat_map f (rows_at rows (take i numbers)) in
    c.in_ok-add_line.ensures.ok (message_for mail m items s.uid) supplied
    ∙ ap (λ x. with x (lines_from m items (n, s) (message_for mail m items s.uid))) (c.loop-number.invariant mail known)
    ∙ g.met.R.Replies.more first before (lines_from m items (n, s) (message_for mail m items s.uid))
    ∙ ap (λ (s : Shown). with first (before ++ lines_from m items (n, s) (message_for mail m items s.uid))) same
    ∙ ap (λ t. with first (before ++ t)) (line_is mail m items (n, row_at rows n))
    ∙ ap (with first) (sym (lines_more mail m items rows numbers i n less is))

pub returns-clause-ok : goal.returns-clause-ok
returns-clause-ok g c = λ mail known.
    c.loop-number.invariant mail known
    ∙ ap (λ (ns : List ℕ). g.R.Replies.with c.args.lines.now (flat_map (fetch_lines mail c.args.live.now.mailbox c.args.items.now) (rows_at c.args.rows.now ns))) (take_all c.loop-number.number-index c.args.numbers.now c.loop-number-test.false)

-- what holds behind any answer
on_err : {A E P : Type 0} (r : Result A E) → P → OnErr r P
on_err (Ok x) p = tt
on_err (Err e) p = p

pub returns-in_err-add_line-clause-err : goal.returns-in_err-add_line-clause-err
returns-in_err-add_line-clause-err g c = λ mail known.
    let before = flat_map (fetch_lines mail c.args.live.now.mailbox c.args.items.now) (rows_at c.args.rows.now (take c.loop-number.number-index c.args.numbers.now)) in
    on_err c.from_residual.result (record { told = before; is = c.in_err-add_line.ensures.err ∙ c.loop-number.invariant mail known })
