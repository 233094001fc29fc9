use Rattle.std.proofs.Common.{nat_eq, ◌≡◌, ◌∙◌, ap, sym, Some, None}
use Rattle.std.specs.Prelude.{option_map}
use Rattle.dv_model.specs.declared.types.Row.{Row}
use Rattle.dv_model.specs.Views.{row_of, shown}
use Rattle.dv_view.proofs.Finding.{found_at, found_nowhere}
use Rattle.dv_answer.proofs.fresh.shown_of.Goals as goal

pub returns-in_ok-shown-in-Some : goal.returns-in_ok-shown-in-Some
returns-in_ok-shown-in-Some c =
    let m = c.args.live.now.mailbox in
    let is : row_of m c.args.uid ≡ Some c.row.result.now = found_at (λ (row : Row). nat_eq row.uid c.args.uid) m.rows c.in-Some.k c.row.result.now (sym c.position.ensures ∙ c.in-Some.is) c.row.ensures in
    ap Some c.in_ok-shown-in-Some.ensures ∙ sym (ap (option_map shown) is)

pub returns-in-None : goal.returns-in-None
returns-in-None c =
    let m = c.args.live.now.mailbox in
    let is : row_of m c.args.uid ≡ None = found_nowhere (λ (row : Row). nat_eq row.uid c.args.uid) m.rows (sym c.position.ensures ∙ c.in-None.is) in
    sym (ap (option_map shown) is)
