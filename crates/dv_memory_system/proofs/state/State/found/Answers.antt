use Rattle.dv_memory_system.proofs.Shown.{found_shown}
use Rattle.dv_memory_system.proofs.state.State.found.Goals as goal

pub returns : goal.returns
returns c = λ at.
    found_shown c.args.bytes.now at c.in_ok-file.file c.in_ok-first.first c.new-others.result c.in_ok-file.ensures c.in_ok-first.ensures c.new-others.ensures
