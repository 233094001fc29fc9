use Rattle.std.proofs.Common.{◌≡◌, true, ℕ, All, List, Some, map, take}
use Rattle.std.specs.List.{list_all}
use Rattle.std.specs.Option.{option_copied}
use Rattle.dv_model.specs.declared.types.Key.TheVariants as key
use Rattle.dv_model.specs.Searches.{meets}
use Rattle.dv_search.specs.Facts.{AreKnown, candidate_of}
use Rattle.dv_search.specs.Prepared.{HasApart}
use Rattle.dv_search.proofs.keys.+meets.Given as goal

abbrev pub invariant-meets_all-loop-key : goal.invariant-meets_all-loop-key
invariant-meets_all-loop-key l = All HasApart l.keys → (message : List ℕ) → AreKnown (key.And l.keys) (Some message) (option_copied l.c.facts) → list_all (λ met. met (candidate_of l.c message)) (map meets (take l.key-index l.key-items)) ≡ true
