use Rattle.std.proofs.Common.{◌∙◌, List, ap, sym}
use Rattle.std.specs.List.{list_any}
use Rattle.dv_memory_system.specs.declared.step.Step.{Step}
use Rattle.dv_memory_system.specs.Steps.{disk_after}
use Rattle.dv_memory_system.specs.Listing.{makes_folder}
use Rattle.dv_memory_system.proofs.Mailboxes.{folder_there, on_ok}
use Rattle.dv_memory_system.proofs.Moments.{stays_same}
use Rattle.dv_memory_system.proofs.Standing.{not_ok, still_same}
use Rattle.dv_memory_system.proofs.system.MemSystemSystem.find_folder.Goals as goal

pub returns-then-has_folder-clause-there : goal.returns-then-has_folder-clause-there
returns-then-has_folder-clause-there c = λ told.
    on_ok c.look.result (folder_there c.args.self.now.steps (ap (λ (l : List Step). list_any (λ (s : Step). makes_folder s.deed) l) (sym c.steps.ensures) ∙ sym c.has_folder.ensures ∙ c.if-has_folder.true))

pub returns-then-has_folder-clause-disk : goal.returns-then-has_folder-clause-disk
returns-then-has_folder-clause-disk c = λ told. ap disk_after c.look.ensures.steps

pub returns-then-has_folder-clause-open : goal.returns-then-has_folder-clause-open
returns-then-has_folder-clause-open c = λ told file e. still_same file e c.args.self.now.steps c.look.new.self.steps c.look.ensures.steps

pub returns-then-has_folder-clause-time : goal.returns-then-has_folder-clause-time
returns-then-has_folder-clause-time c = λ told. stays_same c.args.self.now.steps c.look.new.self.steps c.look.ensures.steps

pub returns-else-has_folder-clause-there : goal.returns-else-has_folder-clause-there
returns-else-has_folder-clause-there c = λ told. not_ok c.refuse.result _ c.refuse.ensures.err

pub returns-else-has_folder-clause-disk : goal.returns-else-has_folder-clause-disk
returns-else-has_folder-clause-disk c = λ told. ap disk_after c.refuse.ensures.steps

pub returns-else-has_folder-clause-open : goal.returns-else-has_folder-clause-open
returns-else-has_folder-clause-open c = λ told file e. still_same file e c.args.self.now.steps c.refuse.new.self.steps c.refuse.ensures.steps

pub returns-else-has_folder-clause-time : goal.returns-else-has_folder-clause-time
returns-else-has_folder-clause-time c = λ told. stays_same c.args.self.now.steps c.refuse.new.self.steps c.refuse.ensures.steps
