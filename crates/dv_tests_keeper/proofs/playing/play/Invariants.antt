use Rattle.dv_shared.specs.Beginning.{BeginsFolder}
use Rattle.dv_shelf.specs.MemShelves.{sees_memory}
use Rattle.dv_tests_keeper.specs.Starts.{first_log}
use Rattle.dv_tests_keeper.proofs.playing.play.Given as goal

-- the keeper of these sessions
abbrev pub ghosts-play_named-K-Keeping : goal.ghosts-play_named-K-Keeping
ghosts-play_named-K-Keeping g a = record {
  roll = a.names.roll.table;
  start = first_log a.store;
  moment = 0;
  past = λ moment folder. Unit {0};
  count = 0;
  honest = BeginsFolder sees_memory (first_log a.store) 0 (λ moment folder. Unit {0}) a.store;
}

abbrev pub ghosts-play_named-L-Ledger : goal.ghosts-play_named-L-Ledger
ghosts-play_named-L-Ledger g a = record { name = a.names.writes.name; parts = a.names.writes.parts }

abbrev pub ghosts-play_named-L-Tally : goal.ghosts-play_named-L-Tally
ghosts-play_named-L-Tally g a = record { all = a.names.writes.parts }

abbrev pub ghosts-play_named-M-Ledger : goal.ghosts-play_named-M-Ledger
ghosts-play_named-M-Ledger g a = record { name = a.names.refusals.name; parts = a.names.refusals.parts }

abbrev pub ghosts-play_named-M-Tally : goal.ghosts-play_named-M-Tally
ghosts-play_named-M-Tally g a = record { all = a.names.refusals.parts }
