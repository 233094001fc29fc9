use Rattle.dv_shelf.specs.Folders.{with_file}
use Rattle.dv_shelf.proofs.SampleLemmas.{shows_more, shows_all}
use Rattle.dv_system.specs.Disks.{files_of}
use Rattle.dv_memory_system.specs.Systems.{disk_of}
use Rattle.dv_memory_system.proofs.system.MemSystem.image.Goals as goal

pub loop-other-preserved : goal.loop-other-preserved
loop-other-preserved c =
    shows_more (with_file (files_of (disk_of c.args.self.now)) c.args.name c.args.file.now) c.as_slice-other-items.result.now c.loop-other.other-index _ c.in_ok-bytes.bytes c.loop-other.image c.put_file.new.image c.loop-other-test.true c.loop-other.invariant c.in_ok-bytes.ensures c.in_ok-put_file.ensures

pub returns : goal.returns
returns c =
    shows_all (files_of (disk_of c.args.self.now)) c.as_slice-other-items.result.now c.in_ok-names.names c.args.name c.args.file.now c.loop-other.other-index c.loop-other.image c.in_ok-names.ensures c.as_slice-other-items.ensures c.loop-other-test.false c.loop-other.invariant
