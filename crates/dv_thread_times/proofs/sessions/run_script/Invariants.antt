use Rattle.dv_shared.specs.Beginning.{BeginsFolder}
use Rattle.dv_beginning.specs.Begins.{start_of}
use Rattle.dv_thread_times.proofs.sessions.run_script.Given as goal

-- the keeper of this run
abbrev pub ghosts-run_named-K-Keeping : goal.ghosts-run_named-K-Keeping
ghosts-run_named-K-Keeping g a = record {
  roll = a.names.roll.table;
  start = start_of g.S.Shelf.sees a.store;
  moment = g.S.Shelf.sees.moment a.store.shelf;
  past = g.S.Shelf.sees.left_since a.store.shelf;
  count = a.start_count;
  honest = BeginsFolder g.S.Shelf.sees (start_of g.S.Shelf.sees a.store) (g.S.Shelf.sees.moment a.store.shelf) (g.S.Shelf.sees.left_since a.store.shelf) a.store;
}

abbrev pub ghosts-run_named-L-Ledger : goal.ghosts-run_named-L-Ledger
ghosts-run_named-L-Ledger g a = record { name = a.names.writes.name; parts = a.names.writes.parts }

abbrev pub ghosts-run_named-L-Tally : goal.ghosts-run_named-L-Tally
ghosts-run_named-L-Tally g a = record { all = a.names.writes.parts }

abbrev pub ghosts-run_named-M-Ledger : goal.ghosts-run_named-M-Ledger
ghosts-run_named-M-Ledger g a = record { name = a.names.refusals.name; parts = a.names.refusals.parts }

abbrev pub ghosts-run_named-M-Tally : goal.ghosts-run_named-M-Tally
ghosts-run_named-M-Tally g a = record { all = a.names.refusals.parts }
