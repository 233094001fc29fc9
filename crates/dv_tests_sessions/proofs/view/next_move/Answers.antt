use Rattle.std.proofs.Common.{◌≡◌, ◌∙◌, true, not, nat_eq, length, ap, arith, subst, sym}
use Rattle.dv_keywords.specs.Tables.{Keywords}
use Rattle.dv_model.specs.declared.types.Shown.{Shown}
use Rattle.dv_model.specs.Fresh.{AreFresh}
use Rattle.dv_model.specs.Views.{shows_uid}
use Rattle.dv_view.proofs.Finding.{any_by_place}
use Rattle.dv_tests_sessions.proofs.view.next_move.Goals as goal

pub advance_by-requires : goal.advance_by-requires
advance_by-requires c =
    let view = c.args.view.now in
    let number : view.next_uid ≡ 3 = omega (arith, c.next_uid.ensures, c.if-next_uid-ne3.false) in
    let here : shows_uid view 2 ≡ true = any_by_place (λ (s : Shown). nat_eq s.uid 2) view.rows c.position.result (sym c.position.ensures) ∙ c.is_none.ensures ∙ ap not c.if-is_none.false in
    let none : length c.empty-names.result.names ≡ 0 = ap (λ (k : Keywords). length k.names) c.empty-names.ensures in
    subst (λ n. AreFresh view 4 n c.in_ok-fresh.fresh) (sym none) (c.in_ok-fresh.ensures view number here)
