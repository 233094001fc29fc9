use Rattle.std.proofs.Common.{get_or, sym, take, ◌∙◌}
use Rattle.std.specs.List.{list_any}
use Rattle.std.proofs.lemmas.List.Folds.{list_any_at, list_any_more}
use Rattle.dv_model.specs.declared.types.Pair.{Pair}
use Rattle.dv_model.specs.Effects.{is_in_pair}
use Rattle.dv_rows.proofs.Named.{either, or_cases}
use Rattle.dv_rows.proofs.keywords.plan.Goals as goal

pub loop-pair-preserved : goal.loop-pair-preserved
loop-pair-preserved c =
    let pairs = c.args.pairs.now in
    let i = c.loop-pair.pair-index in
    let none : Pair = record { first = 0; last = 0 } in
    record {
      right = c.in_ok-plan_range.ensures.right pairs (λ uid is. list_any_at (is_in_pair uid) pairs i none c.loop-pair-test.true is) c.loop-pair.invariant.right;
      done = λ k d h is.
          let uid = (get_or c.args.rows.now k d).uid in
          either _ _ _ (or_cases (list_any (is_in_pair uid) (take i pairs)) (is_in_pair uid (get_or pairs i none)) (sym (list_any_more (is_in_pair uid) pairs i none c.loop-pair-test.true) ∙ is))
          (λ before. c.in_ok-plan_range.ensures.more k (c.loop-pair.invariant.done k d h before)) (λ here. c.in_ok-plan_range.ensures.all k d h here);
    }
