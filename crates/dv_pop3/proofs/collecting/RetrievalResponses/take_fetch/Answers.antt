use Rattle.std.proofs.Common.{◌≡◌, ◌∙◌, ◌++◌, List, ℕ, ap, sym}
use Rattle.std.proofs.lemmas.Option.{same_Some}
use Rattle.std.proofs.lemmas.Result.{on_ok_weaker}
use Rattle.dv_maildrop.specs.Answers.{found_answer}
use Rattle.dv_maildrop.specs.declared.types.Found.TheVariants as found
use Rattle.dv_pop3.specs.Retrievals.{Retrieving}
use Rattle.dv_pop3.proofs.Retrieving.{asked_text, unasked_text}
use Rattle.dv_pop3.proofs.collecting.RetrievalResponses.take_fetch.Goals as goal

pub returns-then-not-asks_body-clause-ok : goal.returns-then-not-asks_body-clause-ok
returns-then-not-asks_body-clause-ok c = λ message are.
    unasked_text c.args.self.now c.args._live.now.mailbox c.args._s.now message c.args._number c.args.items.now (sym c.asks_body.ensures ∙ c.if-not-asks_body.true)

pub returns-in-Some-clause-ok : goal.returns-in-Some-clause-ok
returns-in-Some-clause-ok c = λ message are.
    let self : Retrieving = c.args.self.now in
    let some = sym c.asks_body.ensures ∙ c.if-not-asks_body.false in
    let body : c.as_slice.result.now ≡ message = c.as_slice.ensures ∙ same_Some c.in-Some.message message (sym c.in-Some.is ∙ are.body some) in
    on_ok_weaker c.put_message.result
    (λ put. asked_text self c.args._live.now.mailbox c.args._s.now message c.args._number c.args.items.now c.put_message.new.self some (put ∙ ap (λ (b : List ℕ). record self { text = self.text ++ found_answer self.row (found.Held b) }) body))
    c.put_message.ensures.ok
