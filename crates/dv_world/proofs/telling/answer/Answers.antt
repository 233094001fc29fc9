use Rattle.std.proofs.Common.{◌∙◌, ◌++◌, ◌∷◌, [], List, None, ap, map, subst}
use Rattle.dv_model.specs.declared.types.Command.{Command}
use Rattle.dv_model.specs.declared.types.Reply.{Reply}
use Rattle.dv_model.specs.Sessions.{State, answer}
use Rattle.dv_model.specs.Views.{View}
use Rattle.dv_interleavings.specs.Worlds.{mail_of}
use Rattle.dv_responses.specs.Supplied.{AreSupplied}
use Rattle.dv_world.specs.Shapes.{session_of, state_of, stored_of}
use Rattle.dv_world.proofs.telling.answer.Goals as goal

pub returns-clause-ok : goal.returns-clause-ok
returns-clause-ok c = λ met taken.
    let seat = c.args.seat.now in
    let cmd = c.args.c.now in
    let mail = mail_of (map stored_of c.args.stored.now) in
    let m = seat.live.mailbox in
    let a = answer mail (state_of seat) cmd met seat.seen m c.args.mark in
    let supplied = subst (λ (v : View). AreSupplied mail cmd v m c.in_ok-facts.facts) c.view.ensures c.in_ok-facts.ensures in
    let is = c.in_ok-answer.ensures.answer mail met taken supplied in
    let next = ap (λ (x : State). record { selected = x.selected; view = x.view; told = seat.seen }) is.1 in
    let replies = is.0 ∙ ap (λ (rs : List Reply). rs ++ a.replies) c.new-replies.ensures in
    let pushed = c.in_ok-push.ensures.items ∙ ap (λ (xs : List (Command × List Reply)). xs ++ (c.in_ok-command.command, c.answer.new.replies) ∷ []) c.in_ok-reserve.ensures.items
    ∙ ap (λ (d : Command). seat.answers.items ++ (d, c.answer.new.replies) ∷ []) c.in_ok-command.ensures
    ∙ ap (λ (rs : List Reply). seat.answers.items ++ (cmd, rs) ∷ []) replies in
    ap (λ (x : State). (seat.number, record (session_of seat) { state = x; wrote = None; answers = c.push.new.self.items })) next
    ∙ ap (λ (xs : List (Command × List Reply)). (seat.number, record (session_of seat) { state = a.next; wrote = None; answers = xs })) pushed
