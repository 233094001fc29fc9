use Rattle.dv_chain.proofs.Walks.{walked_more, was_read}
use Rattle.dv_chain.proofs.walking.measure.Goals as goal

pub loop-behind-preserved : goal.loop-behind-preserved
loop-behind-preserved c =
    let w = c.loop-behind.invariant in
    let skips = rw c.in-Some.is at c.in_ok-behind.ensures.skipped in
    let b = c.args.b.now in
    walked_more c.args.from b c.loop-behind.at c.in-Some.behind c.loop-behind.count skips.is w (was_read b c.loop-behind.at c.in-Some.behind skips.is w.inside skips.rises.0 skips.there) skips.rises.1
