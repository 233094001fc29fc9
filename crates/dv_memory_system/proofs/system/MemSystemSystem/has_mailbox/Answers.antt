use Rattle.std.proofs.Common.{◌∙◌, ap, List}
use Rattle.std.specs.List.{list_any}
use Rattle.dv_system.specs.declared.system.Entry.{Entry}
use Rattle.dv_memory_system.specs.Steps.{disk_after}
use Rattle.dv_memory_system.specs.Listing.{is_mailbox_entry}
use Rattle.dv_memory_system.specs.Systems.{disk_of}
use Rattle.dv_memory_system.proofs.Mailboxes.{new_or_not}
use Rattle.dv_memory_system.proofs.Moments.{stays_same}
use Rattle.dv_memory_system.proofs.Standing.{still_same}
use Rattle.dv_memory_system.proofs.system.MemSystemSystem.has_mailbox.Goals as goal

pub returns-in-Ok-clause-found : goal.returns-in-Ok-clause-found
returns-in-Ok-clause-found c = λ told held.
    new_or_not (disk_of c.args.self.now) c.in-Ok.entries c.in-Ok.ensures.found c.are_of_mailbox.result (c.are_of_mailbox.ensures ∙ ap (λ (entries : List Entry). list_any is_mailbox_entry entries) c.as_slice.ensures)

pub returns-in-Ok-clause-disk : goal.returns-in-Ok-clause-disk
returns-in-Ok-clause-disk c = λ told held. ap disk_after c.list_there.ensures.steps

pub returns-in-Ok-clause-open : goal.returns-in-Ok-clause-open
returns-in-Ok-clause-open c = λ told held file e. still_same file e c.args.self.now.steps c.list_there.new.self.steps c.list_there.ensures.steps

pub returns-in-Ok-clause-time : goal.returns-in-Ok-clause-time
returns-in-Ok-clause-time c = λ told held. stays_same c.args.self.now.steps c.list_there.new.self.steps c.list_there.ensures.steps

pub returns-in-Err-clause-disk : goal.returns-in-Err-clause-disk
returns-in-Err-clause-disk c = λ told held. ap disk_after c.list_there.ensures.steps

pub returns-in-Err-clause-open : goal.returns-in-Err-clause-open
returns-in-Err-clause-open c = λ told held file e. still_same file e c.args.self.now.steps c.list_there.new.self.steps c.list_there.ensures.steps

pub returns-in-Err-clause-time : goal.returns-in-Err-clause-time
returns-in-Err-clause-time c = λ told held. stays_same c.args.self.now.steps c.list_there.new.self.steps c.list_there.ensures.steps
