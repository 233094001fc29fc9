use Rattle.std.proofs.Common.{◌≡◌, ◌∙◌, length, ap, rules}
use Rattle.dv_view.proofs.Followed.{after_few, rise_of_ordered}
use Rattle.dv_answer.proofs.numbers.missing_number.Goals as goal

pub overflow_cast-count : goal.overflow_cast-count
overflow_cast-count c =
    let view = c.args.view.now in
    let few = after_few view.next_uid view.rows (rise_of_ordered view c.rows.ensures.ordered) c.rows.ensures.ordered.next_uid in
    let count : c.len-count.result ≡ length view.rows = c.len-count.ensures ∙ ap length c.rows.ensures.is in
    search (rules, few, count)
