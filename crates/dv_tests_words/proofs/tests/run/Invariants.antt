use Rattle.dv_naming.specs.Starts.{no_log}
use Rattle.dv_tests_words.proofs.tests.run.Given as goal

abbrev pub ghosts-run_named : goal.ghosts-run_named
ghosts-run_named a = record {
  roll = a.names.roll.table;
  start = record no_log { start = a.mailbox.now; start_mark = record { file_seq = 1; offset = 40 } };
  moment = 0;
  past = λ moment folder. Unit {0};
  count = 0;
  honest = Unit {0};
}
