use Rattle.std.proofs.Common.{◌≡◌, ◌∙◌, ap, not, rules, sym, false}
use Rattle.std.specs.Prelude.{is_some}
use Rattle.std.specs.List.{list_any}
use Rattle.std.proofs.lemmas.Fn.{filter_same}
use Rattle.dv_model.specs.declared.types.Fresh.{Fresh}
use Rattle.dv_model.specs.declared.types.Shown.{Shown}
use Rattle.dv_model.specs.declared.types.Step.TheVariants.{Held, Full}
use Rattle.dv_view.specs.Following.{has_left, left_number}
use Rattle.dv_view.proofs.Losing.{all_stay}
use Rattle.dv_view.proofs.following.lose.Goals as goal
use Rattle.dv_view.proofs.following.lose.Goals.{in-Held, in-Full}

pub returns-then-loses-clause-full : goal.returns-then-loses-clause-full
returns-then-loses-clause-full c =
    let fresh = c.args.fresh.now in
    λ full. filter_same _ (λ (s : Shown). not (has_left fresh s.uid)) _ (λ x b f' k. search rules) _ _ c.retain.ensures.filtered

pub returns-else-loses-clause-full : goal.returns-else-loses-clause-full
returns-else-loses-clause-full c =
    let rows = c.args.rows.now.items in
    let fresh = c.args.fresh.now in
    λ full. elim c.match-step.branch [
      | in-Held w ↦ let never : Held ≡ Full = sym w.in-Held.is ∙ full in absurd cc
      | in-Full w ↦
          let none : list_any (λ (f : Fresh). is_some (left_number rows f)) fresh ≡ false =
          ap (λ rs. list_any (λ (f : Fresh). is_some (left_number rs f)) fresh) (sym w.deref.ensures.value) ∙ sym w.loses_row-loses.ensures ∙ sym w.loses-is ∙ c.if-loses.false in
          sym (all_stay rows fresh none)
    ]
