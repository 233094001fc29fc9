use Rattle.std.proofs.Common.{refl}
use Rattle.dv_serving.specs.Outputs.{output_of}
use Rattle.dv_pop3_serving.proofs.Closing.{none_serves}
use Rattle.dv_pop3_serving.proofs.session.serve_named.Goals as goal

pub returns-in-Err-clause-serves : goal.returns-in-Err-clause-serves
returns-in-Err-clause-serves g c = λ h.
    let S = g.S.Shelf in
    let store = c.args.store in
    rw (c.ended.ensures, c.in-Err.ensures.err)
    (none_serves S.sees g.C.Clock.sees.tells g.K.Keeping.start g.K.Keeping.moment g.K.Keeping.past g.K.Keeping.honest store c.requires.begins h (λ tells. c.folder_laws.ensures.files store.shelf tells) g.K.Keeping.count c.requires.count.1 c.args.lines
    (output_of g.O.Sink.sees c.args.out.now c.args.out.now) refl)
