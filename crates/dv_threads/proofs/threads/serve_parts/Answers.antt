use Rattle.std.proofs.Common.{◌≡◌, arith, length, refl, rules}
use Rattle.dv_serving.specs.Outputs.{output_of}
use Rattle.dv_threads.specs.declared.ending.ThreadsEnd.TheVariants as ending
use Rattle.dv_threads.proofs.Closing.{has_none, lacks_memory, part_many, unserved_serves}
use Rattle.dv_threads.proofs.threads.serve_parts.Goals as goal

pub returns-then-is_empty-clause-serves : goal.returns-then-is_empty-clause-serves
returns-then-is_empty-clause-serves g c = λ folder lines are servable.
    let S = g.S.Shelf in
    let store = c.args.store in
    let none : length c.args.parts.items ≡ 0 = search rules in
    let many = part_many lines c.args.parts.items are in
    rw (c.unserved.ensures, c.mark-mark.ensures)
    (unserved_serves S.sees store c.requires.fresh c.requires.sound g.C.Clock.sees.tells folder (λ tells. c.folder_laws.ensures.files store.shelf tells) c.args.start_count c.requires.count lines servable (omega (arith, many, none))
    (output_of g.O.Sink.sees c.args.out.now c.args.out.now) refl (ending.Answered store.mark 0) (has_none (omega (arith, many, none))))

pub returns-in-Err-clause-serves : goal.returns-in-Err-clause-serves
returns-in-Err-clause-serves g c = λ folder lines are servable.
    let S = g.S.Shelf in
    let store = c.args.store in
    rw c.unserved-in-Err.ensures
    (unserved_serves S.sees store c.requires.fresh c.requires.sound g.C.Clock.sees.tells folder (λ tells. c.folder_laws.ensures.files store.shelf tells) c.args.start_count c.requires.count lines servable (omega (arith, part_many lines c.args.parts.items are, c.requires.few))
    (output_of g.O.Sink.sees c.args.out.now c.args.out.now) refl ending.NoMemory lacks_memory)
