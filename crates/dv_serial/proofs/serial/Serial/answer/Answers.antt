-- The seat at the place is the session that answers.
use Rattle.std.proofs.Common.{◌≡◌, ◌∙◌, ◌<◌, length, ap, get_or-set_same, subst, sym}
use Rattle.std.specs.Prelude.{OnOk}
use Rattle.std.proofs.lemmas.List.{get_or_read}
use Rattle.dv_model.specs.declared.types.Mailbox.{Mailbox}
use Rattle.dv_model.specs.Sessions.{answer}
use Rattle.dv_apply.specs.States.{Held}
use Rattle.dv_responses.specs.Met.{met_of}
use Rattle.dv_responses.specs.Supplied.{AreSupplied}
use Rattle.dv_answer.specs.Answers.{IsAnswered}
use Rattle.dv_answer.specs.Following.{Follower, new_follower}
use Rattle.dv_serial.specs.Serves.{seat_at}
use Rattle.dv_serial.specs.Servings.{Serving}
use Rattle.dv_serial.proofs.serial.Serial.answer.Goals as goal

pub returns-clause-answer : goal.returns-clause-answer
returns-clause-answer g c = λ mail met_mailbox met supplied.
    let with = g.R.Replies.with in
    let at = c.args.at in
    let before = c.args.replies.now in
    let now = c.answer.new.replies in
    let old = c.args.self.now in
    let m = old.store.chain.live.mailbox in
    let seats = c.self.inside.seats.items in
    let less = subst (λ (s : Serving g.row.S.Denot g.row.C.Denot). at < length s.seats) (sym c.self.view_is) c.requires.at in
    let here : c.index_mut.result.now ≡ seat_at old.seats at =
    get_or_read seats at _ less c.index_mut.ensures.value new_follower ∙ ap (λ (s : Serving g.row.S.Denot g.row.C.Denot). seat_at s.seats at) c.self.view_is in
    let live : c.live.result.now.mailbox ≡ m = ap (λ (l : Held). l.mailbox) c.live.ensures ∙ ap (λ (s : Serving g.row.S.Denot g.row.C.Denot). s.store.chain.live.mailbox) c.self.view_is in
    let met_here = met ∙ ap (λ (f : Follower). met_of c.args.c.now f.state.view met_mailbox) (sym here) in
    let supplied_here = subst (λ (n : Mailbox). AreSupplied mail c.args.c.now c.index_mut.result.now.state.view n c.args.facts.now) (sym live)
    (subst (λ (f : Follower). AreSupplied mail c.args.c.now f.state.view m c.args.facts.now) (sym here) supplied) in
    let given = rw c.mark-mark.ensures at (c.answer.ensures.answer mail met_mailbox met_here supplied_here) in
    let next = c.answer.new.self in
    let seated = subst (λ (f : Follower). OnOk c.answer.result (IsAnswered with before now next.state (answer mail f.state c.args.c.now met_mailbox c.self.inside.groups c.live.result.now.mailbox c.self.inside.store.mark))) here given in
    let over = subst (λ (n : Mailbox). OnOk c.answer.result (IsAnswered with before now next.state (answer mail (seat_at old.seats at).state c.args.c.now met_mailbox c.self.inside.groups n c.self.inside.store.mark))) live seated in
    let whole = subst (λ (s : Serving g.row.S.Denot g.row.C.Denot). OnOk c.answer.result (IsAnswered with before now next.state (answer mail (seat_at old.seats at).state c.args.c.now met_mailbox s.groups m s.store.mark))) c.self.view_is over in
    subst (λ (f : Follower). OnOk c.answer.result (IsAnswered with before now f.state (answer mail (seat_at old.seats at).state c.args.c.now met_mailbox old.groups m old.store.mark))) (sym (get_or-set_same seats at next new_follower less)) whole
