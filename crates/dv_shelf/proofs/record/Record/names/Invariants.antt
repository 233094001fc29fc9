use Rattle.std.proofs.Common.{take}
use Rattle.dv_shelf.specs.Disks.{files_after}
use Rattle.dv_shelf.specs.Records.{made_calls}
use Rattle.dv_shelf.proofs.NameLemmas.{ListsOf}
use Rattle.dv_shelf.proofs.record.Record.names.Given as goal

-- the files that the calls so far name
abbrev pub invariant-loop-call : goal.invariant-loop-call
invariant-loop-call l = ListsOf (files_after (made_calls l.self)) (take l.call-index l.self.calls.items) l.names
