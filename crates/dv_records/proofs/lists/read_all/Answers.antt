use Rattle.std.proofs.Common.{◌≡◌, ◌≤◌, [], length, rules}
use Rattle.std.proofs.lemmas.List.{nil_from_length}
use Rattle.std.proofs.lemmas.Result.{err_from_is_err_and}
use Rattle.dv_records.proofs.Loop.{fails, goes_on, is_done}
use Rattle.dv_records.proofs.lists.read_all.Goals as goal

pub returns-in_err-item : goal.returns-in_err-item
returns-in_err-item g c =
    let p = err_from_is_err_and c.from_residual.result c.from_residual.ensures.1 in
    let long : 1 ≤ length c.loop-rest.rest.now = search rules in
    rw (p.1, p.2) (fails g.T.Read.size g.T.Read.spelled g.T.Read.front c.requires c.args.bytes.now c.loop-rest.items c.loop-rest.rest.now c.in_err-item.field-0.0 c.loop-rest.invariant long c.in_err-item.ensures)

pub loop-rest-preserved : goal.loop-rest-preserved
loop-rest-preserved g c =
    rw (c.in_ok-push.ensures.ok, c.split_at.ensures.back) (goes_on g.T.Read.size g.T.Read.spelled g.T.Read.front c.requires c.args.bytes.now c.loop-rest.items c.loop-rest.rest.now c.in_ok-item.item c.in_ok-item.size c.loop-rest.invariant c.in_ok-item.ensures.0 c.in_ok-item.ensures.1)

pub returns : goal.returns
returns g c =
    let empty : length c.loop-rest.rest.now ≡ 0 = search rules in
    let none : c.loop-rest.rest.now ≡ [] = nil_from_length c.loop-rest.rest.now empty in
    is_done g.T.Read.size g.T.Read.spelled c.args.bytes.now c.loop-rest.items c.loop-rest.rest.now c.loop-rest.invariant none
