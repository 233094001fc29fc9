use Rattle.std.proofs.Common.{◌≡◌, ◌∙◌, OnOk, Ok, subst, sym}
use Rattle.dv_shelf.specs.declared.shelf.Failed.{Failed}
use Rattle.dv_shelf.specs.declared.shelf.Name.TheVariants as name
use Rattle.dv_writing.specs.declared.steps.Files.{Files}
use Rattle.dv_writing.specs.declared.steps.Files.TheVariants as kind
use Rattle.dv_writing.specs.Steps.{HasFiles, MayRenew}
use Rattle.dv_writing.proofs.Filing.{message_others, message_written, none_quiet, none_written}
use Rattle.dv_writing.proofs.Next.{mail_given, may_renew, next_keeps}
use Rattle.dv_writing.proofs.Settling.{put_settled}
use Rattle.dv_writing.proofs.files.write_files.Goals as goal

pub returns-in-Nothing-clause-quiet : goal.returns-in-Nothing-clause-quiet
returns-in-Nothing-clause-quiet g c = λ tells log stands renews.
    let S = g.S.Shelf in
    let shelf = c.args.shelf.now in
    none_quiet S.sees log c.args.chain.now shelf stands (λ f left. g.met.S.Shelf.only_now shelf f tells left)

pub returns-in-Nothing-clause-next : goal.returns-in-Nothing-clause-next
returns-in-Nothing-clause-next g c = λ tells log write after stands gives are.
    let S = g.S.Shelf in
    let m = c.args.chain.now.live.mailbox in
    let shelf = c.args.shelf.now in
    next_keeps {T = Unit {0}} {E = Failed} S.sees log write m after c.args.files.now shelf (Ok (tt {0})) (λ text is. absurd (let no : kind.Nothing ≡ kind.Message text = sym c.in-Nothing.is ∙ is in cc))
    (subst (λ (s : Files). HasFiles S.sees m s shelf) (sym c.in-Nothing.is) (none_written S.sees m shelf)) stands.keeps gives are

pub returns-in-Message-clause-written : goal.returns-in-Message-clause-written
returns-in-Message-clause-written g c = λ tells.
    let S = g.S.Shelf in
    let m = c.args.chain.now.live.mailbox in
    let new = c.put_message.new.shelf in
    subst (λ (s : Files). OnOk c.put_message.result (HasFiles S.sees m s new)) (sym c.in-Message.is)
    (message_written S.sees m c.in-Message.text c.args.shelf.now new c.put_message.result (c.put_message.ensures.leaves tells))

pub returns-in-Message-clause-others : goal.returns-in-Message-clause-others
returns-in-Message-clause-others g c = λ tells.
    let S = g.S.Shelf in
    rw c.in-Message.is
    (message_others S.sees c.args.chain.now.live.mailbox c.in-Message.text c.args.shelf.now c.put_message.new.shelf c.put_message.result (c.put_message.ensures.leaves tells))

pub returns-in-Message-clause-quiet : goal.returns-in-Message-clause-quiet
returns-in-Message-clause-quiet g c = λ tells log stands renews. c.put_message.ensures.quiet tells log stands

pub returns-in-Message-clause-next : goal.returns-in-Message-clause-next
returns-in-Message-clause-next g c = λ tells log write after stands gives are.
    let S = g.S.Shelf in
    let m = c.args.chain.now.live.mailbox in
    let text = c.in-Message.text in
    let new = c.put_message.new.shelf in
    let result = c.put_message.result in
    next_keeps S.sees log write m after c.args.files.now new result
    (λ other is. mail_given S.sees m text new result c.put_message.ensures.valid (λ message guid file. c.put_message.ensures.held tells message guid file) other (sym c.in-Message.is ∙ is))
    (subst (λ (s : Files). OnOk result (HasFiles S.sees m s new)) (sym c.in-Message.is)
    (message_written S.sees m text c.args.shelf.now new result (c.put_message.ensures.leaves tells)))
    (c.put_message.ensures.quiet tells log stands).stands.keeps gives are

pub returns-in-Check-clause-next : goal.returns-in-Check-clause-next
returns-in-Check-clause-next g c = λ tells log write after stands gives are.
    let S = g.S.Shelf in
    let m = c.args.chain.now.live.mailbox in
    let new = c.check_files.new.shelf in
    let result = c.check_files.result in
    next_keeps S.sees log write m after c.args.files.now new result (λ text is. absurd (let no : kind.Check c.in-Check.renewal ≡ kind.Message text = sym c.in-Check.is ∙ is in cc))
    (subst (λ (s : Files). OnOk result (HasFiles S.sees m s new)) (sym c.in-Check.is) (c.check_files.ensures.written tells))
    (c.check_files.ensures.quiet tells log stands (subst (MayRenew log m) c.in-Check.is (may_renew log write.received m write.command c.args.files.now are))).stands.keeps gives are

pub returns-in-Message-clause-settled : goal.returns-in-Message-clause-settled
returns-in-Message-clause-settled g c = λ tells.
    let S = g.S.Shelf in
    put_settled S.sees c.args.shelf.now c.put_message.new.shelf (name.Mail c.args.chain.now.live.mailbox.next_uid) c.in-Message.text c.put_message.result c.put_message.ensures.cause (c.put_message.ensures.leaves tells)
