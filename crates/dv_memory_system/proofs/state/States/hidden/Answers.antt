use Rattle.dv_memory_system.proofs.Shown.{temporary_hid}
use Rattle.dv_memory_system.proofs.state.States.hidden.Goals as goal

pub returns : goal.returns
returns c = λ disk name are.
    let first = disk.temporary.first in
    temporary_hid disk name c.in_ok-here.here c.args.self are (c.in_ok-here.ensures (disk.named name) first are.here (c.in_ok-first.ensures first are.temporary.first))
