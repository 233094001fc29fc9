use Rattle.std.proofs.Common.{length}
use Rattle.dv_tests_keeper.proofs.playing.rise_all.Given as goal

abbrev pub decreases-loop-seat : goal.decreases-loop-seat
decreases-loop-seat g l = length l.seats.items
