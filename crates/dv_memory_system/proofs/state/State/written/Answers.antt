use Rattle.std.proofs.Common.{length, refl}
use Rattle.dv_memory_system.proofs.Shown.{seen_short, seen_front, written_shown}
use Rattle.dv_memory_system.proofs.state.State.written.Goals as goal

pub returns : goal.returns
returns c = λ a shown.
    let bytes = c.args.bytes.now in
    written_shown a c.args.at bytes c.args.stuck c.split_at.result.0.now c.args.self c.in_ok-first.first (seen_front bytes c.args.stuck c.min.result (length bytes) c.split_at.result.0.now c.split_at.ensures.front c.min.ensures refl)
    (c.in_ok-first.ensures a.first (length bytes) (seen_short bytes c.min.result c.split_at.result.0.now c.split_at.ensures.front) shown.first) shown
