use Rattle.std.proofs.Common.{◌≡◌, ◌≤◌, [], length, rules}
use Rattle.std.proofs.lemmas.List.{nil_from_length}
use Rattle.dv_records.proofs.Checked.{some_items, some_told}
use Rattle.dv_records.proofs.Loop.{needs_bytes}
use Rattle.dv_records.proofs.checking.are_some.Goals as goal

pub returns-then-is_empty : goal.returns-then-is_empty
returns-then-is_empty g c =
    let empty : length c.args.bytes.now ≡ 0 = search rules in
    let none : c.args.bytes.now ≡ [] = nil_from_length c.args.bytes.now empty in
    λ items is. needs_bytes g.T.Read.size g.T.Read.spelled g.T.Read.front c.requires items c.args.bytes.now none is.0 is.1

pub returns : goal.returns
returns g c =
    let long : 1 ≤ length c.args.bytes.now = search rules in
    some_told _ _ (some_items g.T.Read.size g.T.Read.spelled c.args.bytes.now long) c.are_items.ensures
