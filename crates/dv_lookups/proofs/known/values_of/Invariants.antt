use Rattle.std.proofs.Common.{◌≡◌, ℕ, List, true, take}
use Rattle.std.specs.List.{list_all}
use Rattle.dv_openings.specs.TrueCaches.{known_in}
use Rattle.dv_responses.specs.Supplied.{values_of}
use Rattle.dv_lookups.specs.Kept.{is_kept}
use Rattle.dv_lookups.proofs.known.values_of.Given as goal

abbrev pub invariant-loop-name : goal.invariant-loop-name
invariant-loop-name l = (message : List ℕ) → l.known ≡ known_in message → list_all is_kept l.names ≡ true → l.values ≡ values_of message (take l.name-index l.names)
