use Rattle.std.proofs.Common.{◌≡◌, ◌∷◌, ◌++◌, length, map}
use Rattle.dv_model.specs.Sessions.{pieces}
use Rattle.dv_maps.specs.Groups.{map_intro}
use Rattle.dv_maps.proofs.Moving.{place_update}
use Rattle.dv_map_groups.proofs.records.add_places.Given as goal

abbrev pub invariant-loop-piece : goal.invariant-loop-piece
invariant-loop-piece l = l.fn.records ++ map_intro ∷ map place_update (pieces l.rows) ≡ l.records ++ map place_update (pieces l.rest)

abbrev pub decreases-loop-piece : goal.decreases-loop-piece
decreases-loop-piece l = length l.rest
