use Rattle.std.proofs.Common.{subst, sym}
use Rattle.dv_touched.proofs.Told.{AreMerged, is_past, merge_ends, merge_more}
use Rattle.dv_touched.proofs.merging.merged.Goals as goal

pub loop-i-preserved : goal.loop-i-preserved
loop-i-preserved c =
    let xs = c.args.xs.now in
    let ys = c.args.ys.now in
    let x = c.lesser-x.result in
    subst (AreMerged xs ys c.behind-i.result c.behind-j.result) (sym c.in_ok-push.ensures.items)
    (merge_more xs ys c.loop-i.i c.loop-i.j x c.behind-i.result c.behind-j.result c.loop-i.made.items c.requires.first c.requires.second c.loop-i.invariant
    (is_past xs c.loop-i.i x c.behind-i.result c.lesser-x.ensures.first c.behind-i.ensures) (is_past ys c.loop-i.j x c.behind-j.result c.lesser-x.ensures.second c.behind-j.ensures) c.lesser-x.ensures.one)

pub returns-clause-is : goal.returns-clause-is
returns-clause-is c = merge_ends c.args.xs.now c.args.ys.now c.loop-i.i c.loop-i.j c.loop-i.made.items c.loop-i.invariant c.if-i-xs.false c.if-j-ys.false
