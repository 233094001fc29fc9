use Rattle.std.proofs.Common.{◌≡◌, ◌-◌, drop, take}
use Rattle.std.specs.Prelude.{flat_map}
use Rattle.std.specs.List.{enumerate_from}
use Rattle.dv_model.specs.Sessions.{offset_row}
use Rattle.dv_groups.proofs.checks.offsets.Given as goal

abbrev pub invariant-loop-at : goal.invariant-loop-at
invariant-loop-at l = l.bytes ≡ flat_map offset_row (take (l.at - l.from) (drop l.from (enumerate_from 0 l.live.mailbox.rows)))
