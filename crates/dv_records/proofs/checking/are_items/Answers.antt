use Rattle.std.proofs.Common.{◌≡◌, ◌≤◌, length, rules}
use Rattle.std.proofs.lemmas.List.{nil_from_length}
use Rattle.dv_records.proofs.Checked.{all_items, no_item, passes_item}
use Rattle.dv_records.proofs.checking.are_items.Goals as goal

pub split_at-requires : goal.split_at-requires
split_at-requires g c = (passes_item g.T.Read.size g.T.Read.spelled g.T.Read.front c.requires c.args.bytes.now c.loop-rest.rest.now c.in-Some.size c.loop-rest.invariant c.in-Some.ensures).inside

pub loop-rest-preserved : goal.loop-rest-preserved
loop-rest-preserved g c =
    rw c.split_at.ensures.back (passes_item g.T.Read.size g.T.Read.spelled g.T.Read.front c.requires c.args.bytes.now c.loop-rest.rest.now c.in-Some.size c.loop-rest.invariant c.in-Some.ensures).then

pub returns-in-None : goal.returns-in-None
returns-in-None g c =
    let long : 1 ≤ length c.loop-rest.rest.now = search rules in
    no_item g.T.Read.size g.T.Read.spelled g.T.Read.front c.requires c.args.bytes.now c.loop-rest.rest.now c.loop-rest.invariant long c.in-None.ensures

pub returns : goal.returns
returns g c =
    let empty : length c.loop-rest.rest.now ≡ 0 = search rules in
    all_items g.T.Read.size g.T.Read.spelled c.args.bytes.now c.loop-rest.rest.now c.loop-rest.invariant (nil_from_length c.loop-rest.rest.now empty)
