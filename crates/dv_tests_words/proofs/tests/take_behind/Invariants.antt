use Rattle.std.proofs.Common.{◌≡◌}
use Rattle.dv_tests_words.proofs.tests.take_behind.Given as goal

abbrev pub invariant-loop-number : goal.invariant-loop-number
invariant-loop-number g l = (l.leaf.table ≡ g.K.Keeping.roll) × (l.feed ≡ l.initial.feed)
