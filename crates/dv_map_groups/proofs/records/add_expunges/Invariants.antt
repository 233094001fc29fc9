use Rattle.std.proofs.Common.{◌≡◌, ◌++◌, length, map}
use Rattle.dv_model.specs.Sessions.{pieces, ranges_of}
use Rattle.dv_maps.proofs.Moving.{expunge}
use Rattle.dv_map_groups.proofs.records.add_expunges.Given as goal

abbrev pub invariant-loop-piece : goal.invariant-loop-piece
invariant-loop-piece l = l.fn.records ++ map expunge (pieces (ranges_of l.ids)) ≡ l.records ++ map expunge (pieces l.rest)

abbrev pub decreases-loop-piece : goal.decreases-loop-piece
decreases-loop-piece l = length l.rest
