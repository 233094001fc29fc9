use Rattle.std.proofs.Common.{◌≡◌, ℕ, ◌||◌, List, map, take}
use Rattle.std.specs.List.{list_any}
use Rattle.dv_search.specs.Facts.{asks}
use Rattle.dv_responses.specs.Asked.{has_name}
use Rattle.dv_responses.proofs.asking.+names.Given as goal

abbrev pub invariant-add_names_of_all-loop-key : goal.invariant-add_names_of_all-loop-key
invariant-add_names_of_all-loop-key l = (name : List ℕ) → has_name l.names name ≡ (has_name l.initial.names name || list_any (λ asks. asks name) (map asks (take l.key-index l.key-items)))
