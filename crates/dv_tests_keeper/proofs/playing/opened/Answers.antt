use Rattle.dv_beginning.specs.Begins.{start_of}
use Rattle.dv_shelf.specs.MemShelves.{sees_memory}
use Rattle.dv_tests_keeper.proofs.Beginning.{log_begins}
use Rattle.dv_tests_keeper.proofs.playing.opened.Goals as goal

pub returns-in-Ok-clause-start : goal.returns-in-Ok-clause-start
returns-in-Ok-clause-start c = log_begins (start_of sees_memory c.in-Ok.store) c.in-Ok.ensures.sound
