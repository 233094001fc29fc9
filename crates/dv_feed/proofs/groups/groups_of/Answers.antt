use Rattle.std.proofs.Common.{◌≡◌, ◌≤◌, length, take, drop, sym, ◌∙◌, rules}
use Rattle.std.specs.Prelude.{slice_index}
use Rattle.dv_feed.proofs.Grouping.{ReadsGroup, fits_next, group_next, grouped_whole, groups_on}
use Rattle.dv_feed.proofs.groups.groups_of.Goals as goal

pub split_at-requires-in-loop-rest : goal.split_at-requires-in-loop-rest
split_at-requires-in-loop-rest c =
    let long : 2 ≤ length c.loop-rest.rest.now = search rules in
    rw (c.split_at.ensures.front, c.split_at.ensures.back) (fits_next c.args.words.now c.loop-rest.entries c.loop-rest.rest.now long c.requires c.loop-rest.invariant)

pub group_of-requires : goal.group_of-requires
group_of-requires c =
    let long : 2 ≤ length c.loop-rest.rest.now = search rules in
    rw (c.split_at-in-loop-rest.ensures.front, c.split_at.ensures.front, c.split_at.ensures.back)
    (group_next c.args.words.now c.loop-rest.entries c.loop-rest.rest.now long c.requires c.loop-rest.invariant)

pub loop-rest-preserved : goal.loop-rest-preserved
loop-rest-preserved c =
    let rest = c.loop-rest.rest.now in
    let long : 2 ≤ length rest = search rules in
    let words : c.split_at-in-loop-rest.result.0.now ≡ take (slice_index (take 2 rest) 1) (drop 2 rest) = c.split_at-in-loop-rest.ensures.front ∙ (λ i. take (slice_index (c.split_at.ensures.front i) 1) (c.split_at.ensures.back i)) in
    let reads : ReadsGroup (take (slice_index (take 2 rest) 1) (drop 2 rest)) c.in_ok-group.group = (λ g all bytes is. c.in_ok-group.ensures g all bytes (is ∙ sym words)) in
    rw (c.in_ok-push.ensures.ok, c.split_at-in-loop-rest.ensures.back, c.split_at.ensures.front, c.split_at.ensures.back)
    (groups_on c.args.words.now c.loop-rest.entries rest c.in_ok-group.group long c.loop-rest.invariant reads)

pub returns : goal.returns
returns c = grouped_whole c.args.words.now c.loop-rest.entries c.loop-rest.rest.now (search rules) c.requires c.loop-rest.invariant
