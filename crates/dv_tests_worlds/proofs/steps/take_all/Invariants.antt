use Rattle.std.specs.Prelude.{All}
use Rattle.dv_world.specs.Shapes.{IsPlayable}
use Rattle.dv_tests_worlds.proofs.steps.take_all.Given as goal

abbrev pub invariant-loop-step : goal.invariant-loop-step
invariant-loop-step l = All IsPlayable l.events
