use Rattle.std.proofs.Common.{◌∙◌, ap}
use Rattle.dv_system.specs.declared.system.Entry.TheVariants as entry
use Rattle.dv_memory_system.specs.Listing.{entry_then}
use Rattle.dv_memory_system.specs.Systems.{disk_of}
use Rattle.dv_memory_system.proofs.Entries.{all_seen, entries_more, none_yet}
use Rattle.dv_memory_system.proofs.system.MemSystem.entries.Goals as goal

pub loop-step-init : goal.loop-step-init
loop-step-init c = none_yet (disk_of c.args.self.now) c.new-entries.result c.new-entries.ensures

pub loop-step-preserved : goal.loop-step-preserved
loop-step-preserved c =
    let disk = disk_of c.args.self.now in
    entries_more disk c.as_slice-step-items.result.now c.loop-step.step-index c.step-item.result c.loop-step.entries _ c.loop-step-test.true c.step-item.is c.loop-step.invariant
    (c.in_ok-add_entry.ensures ∙ ap (λ n. entry_then disk c.loop-step.entries (entry.File n)) c.name_of.ensures)

pub returns : goal.returns
returns c = all_seen c.args.self.now.steps c.as_slice-step-items.result.now c.loop-step.step-index c.loop-step.entries _ c.as_slice-step-items.ensures c.loop-step-test.false c.loop-step.invariant c.in_ok-add_entry-2.ensures
