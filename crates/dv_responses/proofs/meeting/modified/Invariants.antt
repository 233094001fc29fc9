use Rattle.std.proofs.Common.{◌≡◌, map, take}
use Rattle.std.specs.Prelude.{filter, nat_lt}
use Rattle.dv_model.specs.Sessions.{has_row, number_of}
use Rattle.dv_responses.specs.Rows.{rows_at}
use Rattle.dv_responses.proofs.meeting.modified.Given as goal

abbrev pub invariant-loop-number : goal.invariant-loop-number
invariant-loop-number l = l.kept ≡ map (number_of l.by_uid) (filter (λ row. has_row l.live.mailbox (λ r. nat_lt l.since r.modseq) row.1.uid) (rows_at l.rows (take l.number-index l.numbers)))
