use Rattle.dv_memory_system.specs.Steps.{change_at}
use Rattle.dv_memory_system.proofs.Shown.{here_changed}
use Rattle.dv_memory_system.proofs.state.States.here_changed.Goals as goal

pub returns : goal.returns
returns c = λ disk name are.
    here_changed (change_at c.args.change c.args.bytes.now) disk name c.args.self c.in_ok-here.here are (c.in_ok-here.ensures (disk.named name))
