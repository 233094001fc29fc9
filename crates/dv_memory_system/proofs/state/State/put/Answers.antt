use Rattle.dv_memory_system.proofs.Shown.{put_shown}
use Rattle.dv_memory_system.proofs.state.State.put.Goals as goal

pub returns : goal.returns
returns c = λ at v shown are.
    put_shown at v c.args.is_doubted c.args.self c.args.first c.in_ok-others.others c.in_ok-others.ensures shown are
