use Rattle.std.proofs.Common.{◌≡◌, ◌++◌, length, map}
use Rattle.dv_model.specs.declared.types.Body.TheVariants as body
use Rattle.dv_model.specs.Sessions.{external_record, pieces}
use Rattle.dv_groups.specs.Changes.{change_of}
use Rattle.dv_groups.proofs.records.add_flag_updates.Given as goal

abbrev pub invariant-loop-piece : goal.invariant-loop-piece
invariant-loop-piece l =
    l.fn.records ++ map (λ ps. external_record (body.FlagUpdate (map (change_of l.add l.remove) ps))) (pieces l.pairs)
    ≡ l.records ++ map (λ ps. external_record (body.FlagUpdate (map (change_of l.add l.remove) ps))) (pieces l.rest)

abbrev pub decreases-loop-piece : goal.decreases-loop-piece
decreases-loop-piece l = length l.rest
