use Rattle.std.proofs.Common.{get_or, take, ap, sym, ◌∙◌, subst}
use Rattle.std.proofs.lemmas.List.Sums.{fold_more}
use Rattle.dv_model.specs.Effects.{with_intro}
use Rattle.dv_model.specs.Mailboxes.{IsValid}
use Rattle.dv_ext.specs.Tables.{with_table}
use Rattle.dv_validity.proofs.Extensions.{intros_valid}
use Rattle.dv_apply.proofs.extensions.make_current.Goals as goal

pub loop-intro-preserved : goal.loop-intro-preserved
loop-intro-preserved c =
    let i = c.loop-intro.intro-index in
    let intros = c.args.intros.now in
    let intro = c.intro-item.result in
    record {
      is = λ m v.
          let so_far = c.loop-intro.invariant.is m v in
          let valid : IsValid (with_table c.loop-intro.extensions m) = subst IsValid so_far (intros_valid (with_table c.args.extensions.now m) (take i intros) v) in
          fold_more with_intro (with_table c.args.extensions.now m) intros i intro c.loop-intro-test.true
          ∙ ap (λ x. with_intro x (get_or intros i intro)) so_far
          ∙ ap (with_intro (with_table c.loop-intro.extensions m)) (sym c.intro-item.is)
          ∙ c.make_current.ensures.does m valid;
      list = c.make_current.ensures.list ∙ c.loop-intro.invariant.list;
    }
