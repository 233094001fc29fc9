use Rattle.std.proofs.Common.{◌≡◌, ◌∙◌, ◌<◌, true, inr, get_or, length, subst, sym, take}
use Rattle.std.specs.List.{list_any}
use Rattle.std.proofs.lemmas.List.{take_all}
use Rattle.std.proofs.lemmas.List.Folds.{list_any_at, list_any_more}
use Rattle.dv_rows.specs.Noted.{has}
use Rattle.dv_rows.proofs.Named.{either, or_cases}
use Rattle.dv_rows.proofs.naming.name_ranges.Goals as goal

pub returns-in_err-name_range-clause-kept : goal.returns-in_err-name_range-clause-kept
returns-in_err-name_range-clause-kept g c = λ uid p. c.in_err-name_range.ensures.kept uid (c.loop-range.invariant.kept uid p)

pub returns-in_err-name_range-clause-only : goal.returns-in_err-name_range-clause-only
returns-in_err-name_range-clause-only g c =
    let ranges = c.args.ranges.now in
    let i = c.loop-range.range-index in
    let range = c.range-item.result in
    let less : i < length ranges = c.loop-range-test.true in
    λ uid p.
    either _ _ _ (c.in_err-name_range.ensures.only uid p) (c.loop-range.invariant.only uid)
    (λ both. inr (both.0, list_any_at (has g.R.Range.lowest g.R.Range.highest uid) ranges i range less (subst (λ r. has g.R.Range.lowest g.R.Range.highest uid r ≡ true) c.range-item.is both.1)))

pub loop-range-preserved : goal.loop-range-preserved
loop-range-preserved g c =
    let ranges = c.args.ranges.now in
    let i = c.loop-range.range-index in
    let range = c.range-item.result in
    let less : i < length ranges = c.loop-range-test.true in
    record {
      named = λ uid both.
          let test = has g.R.Range.lowest g.R.Range.highest uid in
          either _ _ _ (or_cases (list_any test (take i ranges)) (test (get_or ranges i range)) (sym (list_any_more test ranges i range less) ∙ both.1))
          (λ before. c.in_ok-name_range.ensures.kept uid (c.loop-range.invariant.named uid (both.0, before)))
          (λ here. c.in_ok-name_range.ensures.named uid both.0 (subst (λ r. has g.R.Range.lowest g.R.Range.highest uid r ≡ true) (sym c.range-item.is) here));
      kept = λ uid p. c.in_ok-name_range.ensures.kept uid (c.loop-range.invariant.kept uid p);
      only = λ uid p.
          either _ _ _ (c.in_ok-name_range.ensures.only uid p) (c.loop-range.invariant.only uid)
          (λ both. inr (both.0, list_any_at (has g.R.Range.lowest g.R.Range.highest uid) ranges i range less (subst (λ r. has g.R.Range.lowest g.R.Range.highest uid r ≡ true) c.range-item.is both.1)));
    }

pub returns-clause-named : goal.returns-clause-named
returns-clause-named g c = λ uid both.
    c.loop-range.invariant.named uid
    (both.0, subst (λ l. list_any (has g.R.Range.lowest g.R.Range.highest uid) l ≡ true) (sym (take_all c.loop-range.range-index c.args.ranges.now c.loop-range-test.false)) both.1)
