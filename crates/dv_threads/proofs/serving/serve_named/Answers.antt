use Rattle.std.proofs.Common.{arith, refl}
use Rattle.dv_serving.specs.Outputs.{output_of}
use Rattle.dv_threads.specs.declared.ending.ThreadsEnd.TheVariants as ending
use Rattle.dv_threads.proofs.Closing.{lacks_memory, none_serves, part_many}
use Rattle.dv_threads.proofs.serving.serve_named.Goals as goal

pub returns-in_default-clause-serves : goal.returns-in_default-clause-serves
returns-in_default-clause-serves g c = λ h lines are servable.
    let S = g.S.Shelf in
    let store = c.args.store in
    rw c.unserved.ensures
    (none_serves S.sees g.C.Clock.sees.tells g.K.Keeping.start g.K.Keeping.moment g.K.Keeping.past g.K.Keeping.honest store c.requires.begins h (λ tells. c.folder_laws.ensures.files store.shelf tells) g.K.Keeping.count c.requires.count.1 lines servable
    (omega (arith, part_many lines c.args.parts.items are, c.requires.few.1)) (output_of g.O.Sink.sees c.args.out.now c.args.out.now) refl ending.NoMemory lacks_memory)

pub returns-in_default-with_capacity-clause-serves : goal.returns-in_default-with_capacity-clause-serves
returns-in_default-with_capacity-clause-serves g c = λ h lines are servable.
    let S = g.S.Shelf in
    let store = c.args.store in
    rw c.unserved-in_default-with_capacity.ensures
    (none_serves S.sees g.C.Clock.sees.tells g.K.Keeping.start g.K.Keeping.moment g.K.Keeping.past g.K.Keeping.honest store c.requires.begins h (λ tells. c.folder_laws.ensures.files store.shelf tells) g.K.Keeping.count c.requires.count.1 lines servable
    (omega (arith, part_many lines c.args.parts.items are, c.requires.few.1)) (output_of g.O.Sink.sees c.args.out.now c.args.out.now) refl ending.NoMemory lacks_memory)

pub returns-in-Ok-new-clause-later : goal.returns-in-Ok-new-clause-later
returns-in-Ok-new-clause-later g c = (omega (arith, c.requires.count.0, c.serve_sessions.ensures.later.0), c.serve_sessions.ensures.later.1)

pub returns-in-Err-clause-serves : goal.returns-in-Err-clause-serves
returns-in-Err-clause-serves g c = λ h lines are servable.
    let S = g.S.Shelf in
    let store = c.args.store in
    rw (c.unserved-in-Err.ensures, c.in-Err.ensures.err)
    (none_serves S.sees g.C.Clock.sees.tells g.K.Keeping.start g.K.Keeping.moment g.K.Keeping.past g.K.Keeping.honest store c.requires.begins h (λ tells. c.folder_laws.ensures.files store.shelf tells) g.K.Keeping.count c.requires.count.1 lines servable
    (omega (arith, part_many lines c.args.parts.items are, c.requires.few.1)) (output_of g.O.Sink.sees c.args.out.now c.args.out.now) refl ending.NoMemory lacks_memory)
