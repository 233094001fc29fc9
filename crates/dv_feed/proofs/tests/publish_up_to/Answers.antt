use Rattle.std.proofs.Common.{◌+◌, ◌∙◌, ap, arith}
use Rattle.dv_front.specs.declared.notes.Generation.{Generation}
use Rattle.dv_front.specs.Ends.{PenView}
use Rattle.dv_feed.proofs.Instances.{appended_more, next_is_good, six_more}
use Rattle.dv_feed.proofs.tests.publish_up_to.Goals as goal

pub publish_append-requires-clause-good : goal.publish_append-requires-clause-good
publish_append-requires-clause-good c = next_is_good c.loop-uid.pen c.loop-uid.uid c.loop-uid.invariant.0 (omega arith)

pub publish_append-requires-clause-room : goal.publish_append-requires-clause-room
publish_append-requires-clause-room c = omega (arith, ap (λ (g : Generation). g.room) c.loop-uid.invariant.2, c.loop-uid.invariant.1, c.requires.room)

pub loop-uid-preserved : goal.loop-uid-preserved
loop-uid-preserved c =
    let more = c.publish_append.ensures in
    let six = six_more c.loop-uid.pen c.publish_append.new.pen (c.loop-uid.uid + 1) more in (
      appended_more c.loop-uid.pen c.publish_append.new.pen c.loop-uid.uid c.loop-uid.invariant.0 more,
      omega (arith, six, c.loop-uid.invariant.1),
      ap (λ (p : PenView). p.generation) more ∙ c.loop-uid.invariant.2,
    )
