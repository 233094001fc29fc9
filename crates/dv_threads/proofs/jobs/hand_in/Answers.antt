use Rattle.std.proofs.Common.{◌≡◌, ◌∷◌, ◌++◌, [], ap, arith, length, length-append, rules}
use Rattle.std.proofs.lemmas.List.{length-reverse}
use Rattle.dv_serving.specs.Outputs.{output_of}
use Rattle.dv_threads.proofs.Handing.{fails_on, handing_first, handing_last, handing_more}
use Rattle.dv_threads.proofs.jobs.hand_in.Goals as goal

pub loop-job-init : goal.loop-job-init
loop-job-init g c =
    let O = g.O.Sink in (
      omega (arith, c.requires.room, ap length c.requires.none, ap length c.reverse.ensures.items, length-reverse c.args.jobs.items),
      omega arith,
      tt,
      λ parts served.
          rw (c.requires.none, c.reverse.ensures.items) (handing_first g.K.Keeping.start g.K.Keeping.count g.K.Keeping.honest parts c.args.jobs.items O.sees.tells (O.sees.taken c.args.out.now) served),
    )

pub loop-job-preserved : goal.loop-job-preserved
loop-job-preserved g c =
    let O = g.O.Sink in
    let inv = c.loop-job.invariant in
    let j = c.in-Some.job in
    let is : c.loop-job.jobs.items ≡ c.pop.new.self.items ++ j ∷ [] = search rules in
    let session : c.into_parts-session.result.0 ≡ j.session = search rules in
    let written = c.write_replies-failed.ensures in (
      omega (arith, inv.0, c.push_reserved.ensures.capacity, ap length c.push_reserved.ensures.items, length-append c.loop-job.sessions.items (c.into_parts-session.result.0 ∷ []), ap length is, length-append c.pop.new.self.items (j ∷ [])),
      omega (arith, inv.1, written.later),
      fails_on c.loop-job.failed c.write_replies-failed.result (O.sees.fault_count c.args.out.now) (O.sees.fault_count c.loop-job.out) (O.sees.fault_count c.write_replies-failed.new.out) inv.1 inv.2 written.rose,
      λ parts served.
          rw (c.push_reserved.ensures.items, c.both-whole.ensures, c.is_whole.ensures, session)
          (handing_more g.K.Keeping.start g.K.Keeping.count g.K.Keeping.honest parts c.loop-job.sessions.items c.loop-job.jobs.items c.pop.new.self.items j c.loop-job.whole c.loop-job.failed c.write_replies-failed.result (output_of O.sees c.args.out.now c.loop-job.out)
          (O.sees.taken c.write_replies-failed.new.out) (inv.3 parts served) is (search rules)),
    )

pub returns-clause-hands : goal.returns-clause-hands
returns-clause-hands g c = λ parts served.
    let none : c.loop-job.jobs.items ≡ [] = search rules in
    handing_last g.K.Keeping.start g.K.Keeping.count g.K.Keeping.honest parts c.loop-job.sessions.items c.loop-job.jobs.items c.loop-job.whole c.loop-job.failed (output_of g.O.Sink.sees c.args.out.now c.loop-job.out) (c.loop-job.invariant.3 parts served) none
