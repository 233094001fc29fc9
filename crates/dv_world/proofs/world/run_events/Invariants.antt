use Rattle.std.proofs.Common.{◌≡◌, take}
use Rattle.dv_promises.specs.Standing.{Stands}
use Rattle.dv_world.specs.Promising.{world_behind}
use Rattle.dv_world.specs.Shapes.{world_of}
use Rattle.dv_world.proofs.world.run_events.Given as goal

abbrev pub invariant-loop-e : goal.invariant-loop-e
invariant-loop-e l = record {
  is : world_of l.world ≡ world_behind (take l.e-index l.events);
  stands : Stands (world_of l.world);
}
