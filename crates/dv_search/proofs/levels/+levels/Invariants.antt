use Rattle.std.proofs.Common.{◌≡◌, true, take}
use Rattle.std.specs.Prelude.{nat_le}
use Rattle.std.specs.List.{list_all}
use Rattle.dv_search.specs.Nesting.{levels_of}
use Rattle.dv_search.proofs.levels.+levels.Given as goal

abbrev pub invariant-all_nest_within-loop-key : goal.invariant-all_nest_within-loop-key
invariant-all_nest_within-loop-key l = list_all (λ key. nat_le (levels_of key) l.levels) (take l.key-index l.key-items) ≡ true
