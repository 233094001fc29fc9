use Rattle.std.proofs.Common.{ap, false, refl, subst, sym}
use Rattle.dv_disk.specs.States.{IsPlaceTrusted, IsTrusted}
use Rattle.dv_memory_system.specs.Steps.{disk_after}
use Rattle.dv_memory_system.proofs.system.MemSystem.new.Goals as goal

pub returns-clause-disk : goal.returns-clause-disk
returns-clause-disk c = ap disk_after c.untried.ensures

pub returns-clause-trusted : goal.returns-clause-trusted
returns-clause-trusted c = subst (IsTrusted false (Unit {0})) (sym (ap disk_after c.untried.ensures)) (λ never told n. refl)

pub returns-clause-place : goal.returns-clause-place
returns-clause-place c = subst (IsPlaceTrusted false (Unit {0})) (sym (ap disk_after c.untried.ensures)) (λ never told. refl)
