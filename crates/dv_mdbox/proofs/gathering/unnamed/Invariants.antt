use Rattle.std.proofs.Common.{take}
use Rattle.dv_model.specs.declared.types.Mailbox.{Mailbox}
use Rattle.dv_maps.specs.Purges.{all_mapped}
use Rattle.dv_maps.specs.Tables.{IsTableOf}
use Rattle.dv_mdbox.specs.Gathering.{AreOrphans}
use Rattle.dv_mdbox.proofs.gathering.unnamed.Given as goal

abbrev pub invariant-loop-name : goal.invariant-loop-name
invariant-loop-name l = (m : Mailbox) → IsTableOf (all_mapped m) l.table → AreOrphans m (take l.name-index l.names) l.files.items
