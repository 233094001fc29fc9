use Rattle.std.proofs.Common.{◌≡◌, ◌<◌, ◌≤◌, ap, arith, get_or, length, subst, sym, ◌∙◌}
use Rattle.std.proofs.lemmas.Bool.{cases_lt, ltb-false, false≢true}
use Rattle.std.proofs.lemmas.List.{get_or_default}
use Rattle.dv_model.specs.declared.types.Pair.{Pair}
use Rattle.dv_model.specs.declared.types.Row.{Row}
use Rattle.dv_rows.specs.Plans.{IsPlanned}
use Rattle.dv_rows.proofs.Named.{either}
use Rattle.dv_rows.proofs.Rising.{no_fall}
use Rattle.dv_rows.proofs.Walking.{too_high, within}
use Rattle.dv_rows.proofs.keywords.plan_range.Goals as goal

pub loop-at-preserved : goal.loop-at-preserved
loop-at-preserved c =
    let rows = c.args.rows.now in
    let pair : Pair = c.args.pair.now in
    let at = c.loop-at.at in
    let less : at < length rows = c.loop-at-test.true in
    let up : c.place_from-at.result ≤ at = c.loop-at.invariant.from in
    let high : (get_or rows at c.index-rows-at.result).uid ≤ pair.last = c.if-rows-at.true in
    record {
      from = omega arith;
      right = λ pairs all old.
          c.in_ok-plan_row.ensures.right pairs
          (λ d. all (get_or rows at d).uid
          (within pair.first pair.last (get_or rows at d).uid (ltb-false (get_or rows at d).uid pair.first (c.place_from-at.ensures.is.1 at d up less))
          (subst (λ (row : Row). row.uid ≤ pair.last) (get_or_default rows at c.index-rows-at.result d less) high)))
          (c.loop-at.invariant.right pairs all old);
      more = λ k p. c.in_ok-plan_row.ensures.more k (c.loop-at.invariant.more k p);
      done = λ k d upto h is.
          either _ _ _ (cases_lt k at) (λ before. c.in_ok-plan_row.ensures.more k (c.loop-at.invariant.done k d before h is))
          (λ from. subst (λ j. IsPlanned c.args.how c.args.place rows c.plan_row.new.others.items j) (omega (arith, from, upto)) c.in_ok-plan_row.ensures.here);
    }

pub returns-else-rows-at-clause-all : goal.returns-else-rows-at-clause-all
returns-else-rows-at-clause-all c =
    let rows = c.args.rows.now in
    let pair : Pair = c.args.pair.now in
    let at = c.loop-at.at in
    let less : at < length rows = c.loop-at-test.true in
    let high : pair.last < (get_or rows at c.index-rows-at.result).uid = c.if-rows-at.false in
    λ k d h is.
    either _ _ _ (cases_lt k at) (λ before. c.loop-at.invariant.done k d before h is)
    (λ from.
    let same : (get_or rows at c.index-rows-at.result).uid ≡ (get_or rows at d).uid = ap (λ (row : Row). row.uid) (get_or_default rows at c.index-rows-at.result d less) in
    let more : (get_or rows at d).uid ≤ (get_or rows k d).uid = no_fall rows c.requires at k d from h in
    absurd (false≢true (sym (too_high pair.first pair.last (get_or rows k d).uid (omega (arith, high, same, more))) ∙ is)))
