use Rattle.std.proofs.Common.{take}
use Rattle.dv_shelf.specs.Folders.{with_file}
use Rattle.dv_shelf.specs.Disks.{files_after}
use Rattle.dv_shelf.specs.Records.{made_calls}
use Rattle.dv_shelf.proofs.SampleLemmas.{ShowsOnly}
use Rattle.dv_shelf.proofs.record.Record.image.Given as goal

-- the files of the names so far
abbrev pub invariant-loop-other : goal.invariant-loop-other
invariant-loop-other l = ShowsOnly (with_file (files_after (made_calls l.self)) l.name l.file) (take l.other-index l.other-items) l.image
