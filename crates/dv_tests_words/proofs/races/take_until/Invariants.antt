use Rattle.std.proofs.Common.{◌≡◌}
use Rattle.dv_tests_words.proofs.races.take_until.Given as goal

abbrev pub invariant-loop : goal.invariant-loop
invariant-loop g l = l.leaf.table ≡ g.K.Keeping.roll
