use Rattle.std.proofs.Common.{All}
use Rattle.dv_model.specs.Spelling.{IsRecord}
use Rattle.dv_tests_files.proofs.logfile.records_of.Given as goal

abbrev pub invariant-loop : goal.invariant-loop
invariant-loop l = All IsRecord l.records
