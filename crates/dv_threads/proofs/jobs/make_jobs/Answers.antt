use Rattle.std.proofs.Common.{[], ap, refl, rules}
use Rattle.std.specs.Vec.{vec_capacity}
use Rattle.dv_runner.specs.Works.{Work}
use Rattle.dv_threads.proofs.Handing.{making_first, next_made}
use Rattle.dv_threads.proofs.jobs.make_jobs.Goals as goal

pub loop-part-init : goal.loop-part-init
loop-part-init g c =
    rw (c.reverse.ensures.items, c.reverse-2.ensures.items, c.requires.none)
    (making_first g.K.Keeping.start c.args.parts.items (vec_capacity c.args.jobs.now) c.args.sessions.items c.requires.pairs c.requires.room c.requires.new c.requires.servable)

pub new-requires-clause-new : goal.new-requires-clause-new
new-requires-clause-new g c =
    (next_made g.K.Keeping.start c.args.parts.items (vec_capacity c.loop-part.jobs) c.loop-part.sessions.items c.loop-part.parts.items c.loop-part.jobs.items c.loop-part.invariant
    c.pop-in-Some.new.self.items c.pop.new.self.items c.in-Some.part c.in-Some-pop.session (search rules) (search rules)).new

pub new-requires-clause-servable : goal.new-requires-clause-servable
new-requires-clause-servable g c =
    (next_made g.K.Keeping.start c.args.parts.items (vec_capacity c.loop-part.jobs) c.loop-part.sessions.items c.loop-part.parts.items c.loop-part.jobs.items c.loop-part.invariant
    c.pop-in-Some.new.self.items c.pop.new.self.items c.in-Some.part c.in-Some-pop.session (search rules) (search rules)).servable

pub loop-part-preserved : goal.loop-part-preserved
loop-part-preserved g c =
    let next = next_made g.K.Keeping.start c.args.parts.items (vec_capacity c.loop-part.jobs) c.loop-part.sessions.items c.loop-part.parts.items c.loop-part.jobs.items c.loop-part.invariant
    c.pop-in-Some.new.self.items c.pop.new.self.items c.in-Some.part c.in-Some-pop.session (search rules) (search rules) in
    let j : Work = c.new.result in
    let is = c.new.ensures.is (record { session = c.in-Some.part.name; text = [] }) refl refl in
    rw (c.push_reserved.ensures.capacity, c.push_reserved.ensures.items)
    (next.more j (ap (λ (w : Work). w.session) is) (ap (λ (w : Work). w.commands) is) (ap (λ (w : Work). w.replies.session) is) c.new.ensures.ready)
