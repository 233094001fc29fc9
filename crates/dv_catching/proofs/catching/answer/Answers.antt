use Rattle.std.proofs.Common.{subst}
use Rattle.dv_model.specs.declared.types.Mark.{Mark}
use Rattle.dv_apply.specs.States.{Held}
use Rattle.dv_qresync.specs.Answers.{resynced}
use Rattle.dv_qresync.specs.Texts.{answers_text}
use Rattle.dv_catching.specs.Catching.{EndsBehind}
use Rattle.dv_catching.specs.Texts.{WritesText}
use Rattle.dv_catching.proofs.Answered.{catches}
use Rattle.dv_catching.proofs.catching.answer.Goals as goal

pub returns-clause-catches : goal.returns-clause-catches
returns-clause-catches g c = λ tells clock old begun.
    let S = g.S.Shelf in
    let O = g.O.Sink in
    let store = c.args.store in
    let end = c.tell-end.result in
    let taken = O.sees.taken c.args.out.now in
    let taken_now = O.sees.taken c.tell-end.new.out in
    rw c.parts-shelf.ensures
    (catches S.sees g.C.Clock.sees clock old store begun c.args.client.now end O.sees.tells taken taken_now (g.met.S.Shelf.leaves_files store.shelf tells)
    (subst (λ (place : Mark). EndsBehind place end) c.place.ensures c.tell-end.ensures.ends)
    (λ told. subst (λ (live : Held). WritesText end (answers_text (resynced live.mailbox c.args.client.now)) taken taken_now) c.live.ensures (c.tell-end.ensures.text told)))
