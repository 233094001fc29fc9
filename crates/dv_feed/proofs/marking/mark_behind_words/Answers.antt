use Rattle.std.proofs.Common.{◌≤◌, length, rules}
use Rattle.dv_feed.proofs.Marks.{fits_left, left_first, left_on, marked_first, marked_on, marked_whole, small_left}
use Rattle.dv_feed.proofs.marking.mark_behind_words.Goals as goal

pub loop-rest-init : goal.loop-rest-init
loop-rest-init c = rw c.as_slice-rest.ensures (left_first c.args.mark c.args.words.now c.requires, marked_first c.args.mark c.args.words.now)

pub split_at-requires-in-loop-rest : goal.split_at-requires-in-loop-rest
split_at-requires-in-loop-rest c =
    let long : 2 ≤ length c.loop-rest.rest.now = search rules in
    rw (c.split_at.ensures.front, c.split_at.ensures.back) (fits_left c.loop-rest.behind c.loop-rest.rest.now long c.loop-rest.invariant.0)

pub mark_behind-behind-requires : goal.mark_behind-behind-requires
mark_behind-behind-requires c =
    let long : 2 ≤ length c.loop-rest.rest.now = search rules in
    rw c.split_at.ensures.front (small_left c.loop-rest.behind c.loop-rest.rest.now long c.loop-rest.invariant.0)

pub loop-rest-preserved : goal.loop-rest-preserved
loop-rest-preserved c =
    let long : 2 ≤ length c.loop-rest.rest.now = search rules in
    rw (c.mark_behind-behind.ensures, c.split_at-in-loop-rest.ensures.back, c.split_at.ensures.front, c.split_at.ensures.back)
    (left_on c.loop-rest.behind c.loop-rest.rest.now long c.loop-rest.invariant.0, marked_on c.args.mark c.args.words.now c.loop-rest.behind c.loop-rest.rest.now long c.loop-rest.invariant.1)

pub returns : goal.returns
returns c = marked_whole c.args.mark c.args.words.now c.loop-rest.behind c.loop-rest.rest.now (search rules) c.loop-rest.invariant.1
