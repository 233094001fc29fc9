use Rattle.std.proofs.Common.{◌≡◌, [], length, refl, rules}
use Rattle.std.proofs.lemmas.List.{nil_from_length}
use Rattle.dv_records.proofs.Loop.{needs_bytes}
use Rattle.dv_records.proofs.lists.read_some.Goals as goal

pub returns-then-is_empty : goal.returns-then-is_empty
returns-then-is_empty g c =
    let empty : length c.args.bytes.now ≡ 0 = search rules in
    let none : c.args.bytes.now ≡ [] = nil_from_length c.args.bytes.now empty in
    (refl, λ items is. needs_bytes g.T.Read.size g.T.Read.spelled g.T.Read.front c.requires items c.args.bytes.now none is.0 is.1)
