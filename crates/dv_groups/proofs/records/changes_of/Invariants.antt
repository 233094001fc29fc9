use Rattle.std.proofs.Common.{◌≡◌, map, take}
use Rattle.dv_groups.specs.Changes.{change_of}
use Rattle.dv_groups.proofs.records.changes_of.Given as goal

abbrev pub invariant-loop-pair : goal.invariant-loop-pair
invariant-loop-pair l = l.changes ≡ map (change_of l.add l.remove) (take l.pair-index l.pairs)
