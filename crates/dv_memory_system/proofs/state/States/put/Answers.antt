use Rattle.std.proofs.Common.{Bool, subst}
use Rattle.dv_system.specs.Entries.{put_at}
use Rattle.dv_memory_system.specs.States.{IsShown}
use Rattle.dv_memory_system.proofs.Shown.{temporary_took}
use Rattle.dv_memory_system.proofs.state.States.put.Goals as goal

pub returns : goal.returns
returns c = λ disk name are.
    let temporary = disk.temporary in
    temporary_took disk name c.in_ok-here.here c.absent.result
    (subst (λ (b : Bool). IsShown (put_at temporary.first b (disk.named name)) c.in_ok-here.here) are.temporary.doubted (c.in_ok-here.ensures (disk.named name) temporary.first are.here are.temporary.first)) c.absent.ensures
