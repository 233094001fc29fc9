use Rattle.std.proofs.Common.{◌≡◌, ◌∙◌, nat_eq, refl, rules, sym}
use Rattle.std.specs.Prelude.{is_some, position}
use Rattle.dv_model.specs.declared.types.Row.{Row}
use Rattle.dv_model.specs.declared.types.Shown.{Shown}
use Rattle.dv_model.specs.Views.{row_of, shows_uid}
use Rattle.dv_view.proofs.Finding.{any_by_place, any_is_found}
use Rattle.dv_answer.proofs.fresh.is_untold.Goals as goal

pub returns-then-is_some : goal.returns-then-is_some
returns-then-is_some c =
    let m = c.args.live.now.mailbox in
    let view = c.args.view.now in
    let uid = c.args.uid in
    let shows : shows_uid view uid ≡ is_some (position (λ (s : Shown). nat_eq s.uid uid) view.rows) = any_by_place (λ (s : Shown). nat_eq s.uid uid) view.rows (position (λ (s : Shown). nat_eq s.uid uid) view.rows) refl in
    let has : is_some (row_of m uid) ≡ is_some (position (λ (r : Row). nat_eq r.uid uid) m.rows) =
    sym (any_is_found (λ (r : Row). nat_eq r.uid uid) m.rows) ∙ any_by_place (λ (r : Row). nat_eq r.uid uid) m.rows (position (λ (r : Row). nat_eq r.uid uid) m.rows) refl in
    search rules

pub returns-else-is_some : goal.returns-else-is_some
returns-else-is_some c =
    let m = c.args.live.now.mailbox in
    let view = c.args.view.now in
    let uid = c.args.uid in
    let shows : shows_uid view uid ≡ is_some (position (λ (s : Shown). nat_eq s.uid uid) view.rows) = any_by_place (λ (s : Shown). nat_eq s.uid uid) view.rows (position (λ (s : Shown). nat_eq s.uid uid) view.rows) refl in
    search rules
