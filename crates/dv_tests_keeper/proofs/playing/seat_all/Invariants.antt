use Rattle.std.proofs.Common.{◌≡◌, false, length}
use Rattle.std.specs.Prelude.{All}
use Rattle.dv_member.specs.Members.{Member}
use Rattle.dv_tests_keeper.proofs.playing.seat_all.Given as goal

abbrev pub invariant-loop-session : goal.invariant-loop-session
invariant-loop-session g l = All (λ (s : Member). s.spent ≡ false) l.standing.items

abbrev pub decreases-loop-session : goal.decreases-loop-session
decreases-loop-session g l = length l.standing.items
