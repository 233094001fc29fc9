use Rattle.std.proofs.Common.{◌≡◌, false, map, take}
use Rattle.std.specs.List.{list_any}
use Rattle.dv_search.specs.Stars.{names_star}
use Rattle.dv_search.proofs.stars.+stars.Given as goal

abbrev pub invariant-stands_in_any-loop-key : goal.invariant-stands_in_any-loop-key
invariant-stands_in_any-loop-key l = list_any (λ star. star) (map names_star (take l.key-index l.key-items)) ≡ false
