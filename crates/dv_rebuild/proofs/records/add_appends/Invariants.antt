use Rattle.std.proofs.Common.{◌≡◌, ◌++◌, length, map}
use Rattle.dv_model.specs.declared.types.Body.TheVariants as body
use Rattle.dv_model.specs.Sessions.{external_record, pieces}
use Rattle.dv_rebuild.proofs.records.add_appends.Given as goal

abbrev pub invariant-loop-piece : goal.invariant-loop-piece
invariant-loop-piece l =
    l.fn.records ++ map (λ rows. external_record (body.Append rows)) (pieces l.rows)
    ≡ l.records ++ map (λ rows. external_record (body.Append rows)) (pieces l.rest)

abbrev pub decreases-loop-piece : goal.decreases-loop-piece
decreases-loop-piece l = length l.rest
