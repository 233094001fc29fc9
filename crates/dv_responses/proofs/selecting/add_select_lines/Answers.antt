use Rattle.std.proofs.Common.{◌≡◌, ◌∙◌, length, ap, arith}
use Rattle.dv_view.proofs.Moving.{rising_of_ordered}
use Rattle.dv_view.proofs.Rising.{few}
use Rattle.dv_responses.proofs.selecting.add_select_lines.Goals as goal

pub overflow_cast-rows : goal.overflow_cast-rows
overflow_cast-rows g c =
    let many : length c.as_slice-rows.result.now ≡ length c.args.view.now.rows = ap length (c.as_slice-rows.ensures ∙ c.rows.ensures.is) in
    let most = few c.args.view.now.rows (rising_of_ordered c.args.view.now c.rows.ensures.ordered) in
    omega (arith, many, most)

pub add_changes-requires-clause-count : goal.add_changes-requires-clause-count
add_changes-requires-clause-count g c =
    let many : length c.as_slice-rows.result.now ≡ length c.args.view.now.rows = ap length (c.as_slice-rows.ensures ∙ c.rows.ensures.is) in
    let most = few c.args.view.now.rows (rising_of_ordered c.args.view.now c.rows.ensures.ordered) in
    omega (arith, many, most)
