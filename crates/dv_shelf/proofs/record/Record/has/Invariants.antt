use Rattle.std.proofs.Common.{◌≡◌, take, map, is_some}
use Rattle.dv_shelf.specs.Disks.{files_after}
use Rattle.dv_shelf.specs.Records.{made_call}
use Rattle.dv_shelf.proofs.record.Record.has.Given as goal

-- whether it is there after the calls so far
abbrev pub invariant-loop-call : goal.invariant-loop-call
invariant-loop-call l = l.has ≡ is_some (files_after (map (made_call l.self.bytes.items) (take l.call-index l.self.calls.items)) l.name)
