use Rattle.dv_interleavings.specs.Worlds.{new_world, all_happen}
use Rattle.dv_promises.proofs.Crashing.{crash_keeps}
use Rattle.dv_promises.proofs.Ending.{all_keep, begins}
use Rattle.dv_promises.proofs.laws.crashes_keep.Goals as goal

pub returns-clause-standing : goal.returns-clause-standing
returns-clause-standing c = crash_keeps

pub returns-clause-all : goal.returns-clause-all
returns-clause-all c = λ start indexid mark stored events n valid good.
    let first = new_world start indexid mark stored in crash_keeps (all_happen first events) n (all_keep first events (begins start indexid mark stored valid) good)
