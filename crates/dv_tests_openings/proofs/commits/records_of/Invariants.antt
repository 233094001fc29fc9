use Rattle.std.proofs.Common.{All}
use Rattle.dv_model.specs.Spelling.{IsRecord}
use Rattle.dv_tests_openings.proofs.commits.records_of.Given as goal

abbrev pub invariant-loop : goal.invariant-loop
invariant-loop l = All IsRecord l.records
