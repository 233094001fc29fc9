use Rattle.std.proofs.Common.{◌≡◌, map, take}
use Rattle.dv_shelf.specs.Disks.{files_after}
use Rattle.dv_shelf.specs.Records.{made_call}
use Rattle.dv_shelf.proofs.record.Record.file_upto.Given as goal

-- the file after the calls so far
abbrev pub invariant-loop-call : goal.invariant-loop-call
invariant-loop-call l = l.file ≡ files_after (map (made_call l.self.bytes.items) (take l.call-index (take l.count l.self.calls.items))) l.name
