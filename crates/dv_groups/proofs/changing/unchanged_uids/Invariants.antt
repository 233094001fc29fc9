use Rattle.std.proofs.Common.{◌≡◌, take}
use Rattle.std.specs.Prelude.{filter}
use Rattle.dv_model.specs.Sessions.{has_row, is_unchanged}
use Rattle.dv_groups.proofs.changing.unchanged_uids.Given as goal

abbrev pub invariant-loop-uid : goal.invariant-loop-uid
invariant-loop-uid l = l.found ≡ filter (has_row l.live.mailbox (is_unchanged l.since)) (take l.uid-index l.uids)
