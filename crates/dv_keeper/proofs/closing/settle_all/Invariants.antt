use Rattle.std.proofs.Common.{◌≡◌, length}
use Rattle.dv_shared.specs.Kept.{notes_in}
use Rattle.dv_keeper.proofs.Settles.{Settled}
use Rattle.dv_keeper.proofs.closing.settle_all.Given as goal

abbrev pub invariant-loop-s : goal.invariant-loop-s
invariant-loop-s g l =
    (l.shared ≡ l.initial.shared) × Settled l.sessions.items l.fn.sessions.items (notes_in l.initial.shared.kept) l.writes.parts l.writes.amount l.refusals.parts l.refusals.amount

abbrev pub decreases-loop-s : goal.decreases-loop-s
decreases-loop-s g l = length l.sessions.items
