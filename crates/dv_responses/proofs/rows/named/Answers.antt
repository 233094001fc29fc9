use Rattle.std.proofs.Common.{◌≡◌, ◌∙◌, All, length, ap, sym, subst, arith}
use Rattle.std.proofs.lemmas.Result.{IfOk-weaker}
use Rattle.dv_model.specs.Sets.{is_in_set, largest_uid, named}
use Rattle.dv_view.proofs.Moving.{rising_of_ordered}
use Rattle.dv_view.proofs.Rising.{few}
use Rattle.dv_responses.proofs.Standing.{chosen_inside, chosen_stand}
use Rattle.dv_responses.specs.Rows.{IsNumber, rows_at}
use Rattle.dv_responses.proofs.rows.named.Goals as goal

pub uids-requires-clause-few : goal.uids-requires-clause-few
uids-requires-clause-few c =
    let many : length c.rows-rows.result.now ≡ length c.args.view.now.rows = ap length c.rows-rows.ensures.is in
    let most = few c.args.view.now.rows (rising_of_ordered c.args.view.now c.rows-rows.ensures.ordered) in
    omega (arith, many, most)

pub overflow_cast-len : goal.overflow_cast-len
overflow_cast-len c =
    let many : length c.rows-rows.result.now ≡ length c.args.view.now.rows = ap length c.rows-rows.ensures.is in
    let most = few c.args.view.now.rows (rising_of_ordered c.args.view.now c.rows-rows.ensures.ordered) in
    let counted = c.len.ensures in
    omega (arith, many, most, counted)

pub returns-then-by_uid-clause-is : goal.returns-then-by_uid-clause-is
returns-then-by_uid-clause-is c =
    let view = c.args.view.now in
    let set = c.args.set.now in
    IfOk-weaker c.uids.result _ _
    (λ numbers is. ap (rows_at view.rows) is ∙ chosen_stand view.rows (λ row. is_in_set (largest_uid view) set row.1.uid) ∙ ap (λ b. named b set view) (sym c.if-by_uid.true))
    (c.uids.ensures view (sym c.rows-rows.ensures.is))

pub returns-then-by_uid-clause-inside : goal.returns-then-by_uid-clause-inside
returns-then-by_uid-clause-inside c =
    let view = c.args.view.now in
    let set = c.args.set.now in
    IfOk-weaker c.uids.result _ _
    (λ numbers is. subst (All (IsNumber view.rows)) (sym is) (chosen_inside view.rows (λ row. is_in_set (largest_uid view) set row.1.uid)))
    (c.uids.ensures view (sym c.rows-rows.ensures.is))

pub returns-else-by_uid-clause-is : goal.returns-else-by_uid-clause-is
returns-else-by_uid-clause-is c =
    let view = c.args.view.now in
    let set = c.args.set.now in
    IfOk-weaker c.numbers_among.result _ _
    (λ numbers is. ap (rows_at view.rows) is ∙ chosen_stand view.rows (λ row. is_in_set (length view.rows) set row.0) ∙ ap (λ b. named b set view) (sym c.if-by_uid.false))
    (c.numbers_among.ensures view (sym (c.len.ensures ∙ ap length c.rows-rows.ensures.is)))

pub returns-else-by_uid-clause-inside : goal.returns-else-by_uid-clause-inside
returns-else-by_uid-clause-inside c =
    let view = c.args.view.now in
    let set = c.args.set.now in
    IfOk-weaker c.numbers_among.result _ _
    (λ numbers is. subst (All (IsNumber view.rows)) (sym is) (chosen_inside view.rows (λ row. is_in_set (length view.rows) set row.0)))
    (c.numbers_among.ensures view (sym (c.len.ensures ∙ ap length c.rows-rows.ensures.is)))
