use Rattle.std.proofs.Common.{◌≡◌, ◌-◌, ◌^◌, min, take}
use Rattle.dv_groups.specs.Lengths.{keywords_length}
use Rattle.dv_groups.proofs.lengths.keywords_length.Given as goal

abbrev pub invariant-loop-name : goal.invariant-loop-name
invariant-loop-name l = l.total ≡ min (keywords_length (take l.name-index l.names) l.ranges) (2 ^ 64 - 1)
