use Rattle.std.proofs.Common.{nat_eq, ◌≡◌, ◌∙◌, sym, Some, None}
use Rattle.dv_model.specs.declared.types.Row.{Row}
use Rattle.dv_model.specs.Views.{row_of}
use Rattle.dv_view.proofs.Finding.{found_at, found_nowhere}
use Rattle.dv_view.proofs.moves.held_row.Goals as goal

pub returns-in-Some : goal.returns-in-Some
returns-in-Some c =
    let m = c.args.live.now.mailbox in
    let s = c.args.s.now in
    let is : row_of m s.uid ≡ Some c.row.result.now = found_at (λ (row : Row). nat_eq row.uid s.uid) m.rows c.in-Some.k c.row.result.now (sym c.position.ensures ∙ c.in-Some.is) c.row.ensures in
    rw is c.shown.ensures

pub returns-in-None : goal.returns-in-None
returns-in-None c =
    let m = c.args.live.now.mailbox in
    let s = c.args.s.now in
    let is : row_of m s.uid ≡ None = found_nowhere (λ (row : Row). nat_eq row.uid s.uid) m.rows (sym c.position.ensures ∙ c.in-None.is) in
    rw is c.copy_of.ensures
