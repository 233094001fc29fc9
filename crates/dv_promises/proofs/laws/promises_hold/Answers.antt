use Rattle.dv_interleavings.specs.Worlds.{new_world, all_happen}
use Rattle.dv_promises.proofs.Ending.{all_keep, begins}
use Rattle.dv_promises.proofs.Holding.{holds}
use Rattle.dv_promises.proofs.Once.{writes_are_distinct}
use Rattle.dv_promises.proofs.laws.promises_hold.Goals as goal

pub returns-clause-standing : goal.returns-clause-standing
returns-clause-standing c = holds

pub returns-clause-all : goal.returns-clause-all
returns-clause-all c = λ start indexid mark stored events valid good.
    let first = new_world start indexid mark stored in holds (all_happen first events) (all_keep first events (begins start indexid mark stored valid) good)

pub returns-clause-once : goal.returns-clause-once
returns-clause-once c = writes_are_distinct
