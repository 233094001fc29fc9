use Rattle.std.proofs.Common.{◌≡◌}
use Rattle.std.specs.Prelude.{replicate}
use Rattle.dv_answer.specs.Following.{new_follower}
use Rattle.dv_serial.proofs.seats.new_seats.Given as goal

abbrev pub invariant-loop : goal.invariant-loop
invariant-loop l = l.seats ≡ replicate l.counter new_follower
