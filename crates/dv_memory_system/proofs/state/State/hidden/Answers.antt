use Rattle.dv_memory_system.proofs.Shown.{hidden_shown}
use Rattle.dv_memory_system.proofs.state.State.hidden.Goals as goal

pub returns : goal.returns
returns c = λ at v shown are.
    hidden_shown at v c.args.self c.args.first c.in_ok-others.others c.in_ok-others.ensures shown are
