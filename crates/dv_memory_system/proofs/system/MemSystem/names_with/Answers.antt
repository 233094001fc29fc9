use Rattle.std.proofs.Common.{◌∙◌, ap}
use Rattle.dv_memory_system.specs.Samples.{name_then}
use Rattle.dv_memory_system.proofs.Naming.{first_name, names_more, names_seen}
use Rattle.dv_memory_system.proofs.system.MemSystem.names_with.Goals as goal

pub loop-step-init : goal.loop-step-init
loop-step-init c = first_name c.args.name _ _ c.new-names.ensures c.in_ok-push.ensures.ok

pub loop-step-preserved : goal.loop-step-preserved
loop-step-preserved c =
    names_more c.args.name c.steps-step-items.result.now c.loop-step.step-index c.step-item.result c.loop-step.names _ c.loop-step-test.true c.step-item.is c.loop-step.invariant
    (c.in_ok-add_name.ensures ∙ ap (λ n. name_then c.loop-step.names n) c.name_of.ensures)

pub returns : goal.returns
returns c = names_seen c.args.name c.args.self.now.steps c.steps-step-items.result.now c.loop-step.step-index c.loop-step.names c.steps-step-items.ensures c.loop-step-test.false c.loop-step.invariant
