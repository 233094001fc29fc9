use Rattle.std.proofs.Common.{◌≡◌, ◌++◌, take}
use Rattle.std.specs.Prelude.{flat_map}
use Rattle.dv_model.specs.Sessions.{keyword_updates}
use Rattle.dv_groups.proofs.records.add_keyword_updates.Given as goal

abbrev pub invariant-loop-name : goal.invariant-loop-name
invariant-loop-name l = l.records ≡ l.fn.records ++ flat_map (keyword_updates l.how l.pairs) (take l.name-index l.names)
