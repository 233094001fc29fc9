use Rattle.dv_memory_system.proofs.Shown.{none_shown, shown_more, shown_all}
use Rattle.dv_memory_system.proofs.state.States.after.Goals as goal

pub loop-step-init : goal.loop-step-init
loop-step-init c = none_shown c.args.name c.absent.result c.absent-2.result c.absent.ensures c.absent-2.ensures

pub loop-step-preserved : goal.loop-step-preserved
loop-step-preserved c = shown_more c.args.name c.args.steps.now c.loop-step.step-index c.step-item.result c.in_ok-states.states c.loop-step-test.true c.step-item.is (c.in_ok-states.ensures _ c.loop-step.invariant)

pub returns : goal.returns
returns c = shown_all c.args.name c.args.steps.now c.loop-step.step-index c.loop-step.states c.loop-step-test.false c.loop-step.invariant
