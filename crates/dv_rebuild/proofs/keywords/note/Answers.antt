use Rattle.dv_rebuild.proofs.Noted.{noted_push}
use Rattle.dv_rebuild.proofs.keywords.note.Goals as goal

pub loop-place-preserved : goal.loop-place-preserved
loop-place-preserved c =
    noted_push c.args.uid c.args.places.now c.loop-place.place-index c.args.lists.now c.loop-place.lists c.push.new.self _ c.requires.rising c.loop-place-test.true c.requires.inside c.loop-place.invariant c.in_ok-push.ensures.ok
