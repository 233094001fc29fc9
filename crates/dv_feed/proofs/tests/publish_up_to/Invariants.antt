use Rattle.std.proofs.Common.{◌≡◌, ◌+◌, ◌-◌, ◌*◌, length}
use Rattle.dv_feed.specs.Appends.{HasAppended, append_note}
use Rattle.dv_feed.proofs.tests.publish_up_to.Given as goal

abbrev pub invariant-loop-uid : goal.invariant-loop-uid
invariant-loop-uid l =
    HasAppended l.pen l.uid
    × (length l.pen.put ≡ length l.initial.pen.put + 6 * (l.uid - l.fn.first))
    × (l.pen.generation ≡ l.initial.pen.generation)

abbrev pub ghosts-publish_append : goal.ghosts-publish_append
ghosts-publish_append a = record { note = append_note a.uid }
