use Rattle.std.proofs.Common.{◌≡◌, ◌∙◌, false, rules, sym}
use Rattle.std.specs.Prelude.{is_some}
use Rattle.std.proofs.lemmas.Result.{on_ok_weaker}
use Rattle.dv_pop3.proofs.Taking.{asked_size, unasked_size}
use Rattle.dv_pop3.proofs.sizes.SizesResponses.take_fetch.Goals as goal

pub returns-then-not-asks_size-clause-ok : goal.returns-then-not-asks_size-clause-ok
returns-then-not-asks_size-clause-ok c = λ message describes.
    let none : is_some c.args.self.now.failure ≡ false = search rules in
    unasked_size c.args.self.now c.args._live.now.mailbox c.args.s.now message c.args._number c.args.items.now none (sym c.asks_size.ensures ∙ c.if-not-asks_size.true)

pub returns-clause-ok : goal.returns-clause-ok
returns-clause-ok c = λ message describes.
    let none : is_some c.args.self.now.failure ≡ false = search rules in
    let asks = sym c.asks_size.ensures ∙ c.if-not-asks_size.false in
    on_ok_weaker c.add.result
    (λ now. asked_size c.args.self.now c.args._live.now.mailbox c.args.s.now message c.args._number c.args.items.now c.add.new.self c.args.facts.now.size none asks (describes.size asks) now)
    c.add.ensures.ok
