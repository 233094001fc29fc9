use Rattle.std.proofs.Common.{◌≡◌, ◌+◌, ◌<◌, ◌≤◌, false, ltb, ap, arith, get_or, length, subst, sym}
use Rattle.std.specs.Prelude.{Contains}
use Rattle.std.proofs.lemmas.Bool.{ltb-false}
use Rattle.std.proofs.lemmas.List.{get_or_default}
use Rattle.dv_model.specs.declared.types.Row.{Row}
use Rattle.dv_rows.specs.Places.{IsPlace}
use Rattle.dv_rows.proofs.Named.{NamesTo, names_all, names_more}
use Rattle.dv_rows.proofs.Walking.{within}
use Rattle.dv_rows.proofs.naming.name_range.Goals as goal

pub returns-in_err-push-clause-kept : goal.returns-in_err-push-clause-kept
returns-in_err-push-clause-kept g c = λ uid p. subst (λ l. Contains l uid) (sym c.in_err-push.ensures.items) (c.loop-at.invariant.kept uid p)

pub returns-in_err-push-clause-only : goal.returns-in_err-push-clause-only
returns-in_err-push-clause-only g c = λ uid p. c.loop-at.invariant.only uid (subst (λ l. Contains l uid) c.in_err-push.ensures.items p)

pub loop-at-preserved : goal.loop-at-preserved
loop-at-preserved g c =
    let rows = c.args.rows.now in
    let at = c.loop-at.at in
    let range = c.args.range.now in
    let less : at < length rows = c.loop-at-test.true in
    let row : Row = get_or rows at c.index-rows-at-in-loop-at.result in
    let low = ltb-false row.uid (g.R.Range.lowest range) (subst (λ u. ltb row.uid u ≡ false) c.first.ensures (c.place_from-at.ensures.is.1 at c.index-rows-at-in-loop-at.result c.loop-at.invariant.order less)) in
    let same : (get_or rows at c.index-rows-at.result).uid ≡ row.uid = ap (λ (r : Row). r.uid) (get_or_default rows at c.index-rows-at.result c.index-rows-at-in-loop-at.result less) in
    let high : (get_or rows at c.index-rows-at.result).uid ≤ c.last-last.result = c.if-rows-at.true in
    let last : c.last-last.result ≡ g.R.Range.highest range = c.last-last.ensures in
    subst (NamesTo g.R.Range.lowest g.R.Range.highest range rows c.place_from-at.result (at + 1) c.args.uids.now.items) (sym c.in_ok-push.ensures.items)
    (names_more g.R.Range.lowest g.R.Range.highest range rows c.place_from-at.result at c.args.uids.now.items c.loop-at.uids.items row c.loop-at.invariant less
    (get_or_default rows at c.index-rows-at-in-loop-at.result row less) (within (g.R.Range.lowest range) (g.R.Range.highest range) row.uid low (omega arith)))

pub returns-else-rows-at-clause-named : goal.returns-else-rows-at-clause-named
returns-else-rows-at-clause-named g c =
    names_all g.R.Range.lowest g.R.Range.highest c.args.range.now c.args.rows.now c.place_from-at.result c.loop-at.at c.args.uids.now.items c.loop-at.uids.items c.requires
    (subst (λ uid. IsPlace c.args.rows.now uid c.place_from-at.result) c.first.ensures c.place_from-at.ensures.is) c.loop-at.invariant
    (λ less d.
    let same : (get_or c.args.rows.now c.loop-at.at c.index-rows-at.result).uid ≡ (get_or c.args.rows.now c.loop-at.at d).uid = ap (λ (r : Row). r.uid) (get_or_default c.args.rows.now c.loop-at.at c.index-rows-at.result d less) in
    let high : c.last-last.result < (get_or c.args.rows.now c.loop-at.at c.index-rows-at.result).uid = c.if-rows-at.false in
    let last : c.last-last.result ≡ g.R.Range.highest c.args.range.now = c.last-last.ensures in
    omega arith)

pub returns-after-loop-at-clause-named : goal.returns-after-loop-at-clause-named
returns-after-loop-at-clause-named g c =
    names_all g.R.Range.lowest g.R.Range.highest c.args.range.now c.args.rows.now c.place_from-at.result c.loop-at.at c.args.uids.now.items c.loop-at.uids.items c.requires
    (subst (λ uid. IsPlace c.args.rows.now uid c.place_from-at.result) c.first.ensures c.place_from-at.ensures.is) c.loop-at.invariant (λ less d. absurd (omega (arith, less, c.loop-at-test.false)))
