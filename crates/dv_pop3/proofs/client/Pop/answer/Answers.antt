use Rattle.std.proofs.Common.{◌∙◌, sym, ap}
use Rattle.dv_maildrop.specs.Maildrops.{asked}
use Rattle.dv_pop3.specs.Clients.{Client}
use Rattle.dv_pop3.proofs.Asking.{message_answered, own_answered, removal_answered}
use Rattle.dv_pop3.proofs.client.Pop.answer.Goals as goal

pub returns-in-Nothing-clause-answer : goal.returns-in-Nothing-clause-answer
returns-in-Nothing-clause-answer g c h =
    let k = g.K.Keeping in
    let p = c.args.self.now in
    let l = c.args.line.now in
    let is = ap (λ (x : Client). asked x.maildrop l) (sym c.self.view_is) ∙ sym c.asked.ensures ∙ c.in-Nothing.is in
    own_answered k.start k.count p.maildrop l p.session c.answer_own.new.self.session c.answer_own.result is c.answer_own.ensures.session c.answer_own.ensures.text

pub returns-in-Message-clause-answer : goal.returns-in-Message-clause-answer
returns-in-Message-clause-answer g c h =
    let k = g.K.Keeping in
    let p = c.args.self.now in
    let l = c.args.line.now in
    let is = ap (λ (x : Client). asked x.maildrop l) (sym c.self.view_is) ∙ sym c.asked.ensures ∙ c.in-Message.is in
    message_answered k.start k.count p.maildrop l p.session c.answer_message.new.self.session c.answer_message.result c.in-Message.row is (c.answer_message.ensures.found h)

pub returns-in-Removal-clause-answer : goal.returns-in-Removal-clause-answer
returns-in-Removal-clause-answer g c h =
    let k = g.K.Keeping in
    let p = c.args.self.now in
    let l = c.args.line.now in
    let is = ap (λ (x : Client). asked x.maildrop l) (sym c.self.view_is) ∙ sym c.asked.ensures ∙ c.in-Removal.is in
    removal_answered k.start k.count p.maildrop l p.session c.answer_quit.new.self.session c.answer_quit.result is (c.answer_quit.ensures.removed h)
