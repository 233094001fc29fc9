use Rattle.std.proofs.Common.{◌≡◌, ◌∙◌, List, ap, sym}
use Rattle.dv_model.specs.Sessions.{data_of}
use Rattle.dv_model.specs.declared.types.Reply.{Reply}
use Rattle.dv_member.specs.Members.{Member, notes_of}
use Rattle.dv_keeper.proofs.Telling.{hold_begins, none_damaged, seen_end, told_end, write_data}
use Rattle.dv_keeper.proofs.writing.tell_written.Goals as goal

pub returns-in-Ok-clause-answer : goal.returns-in-Ok-clause-answer
returns-in-Ok-clause-answer g c = λ mail m met.
    let with = g.R.Replies.with in
    let command = c.args.c.now in
    let view = c.args.s.now.follower.state.view in
    let live = c.args.shared.now.kept.store.chain.live.mailbox in
    let write = c.requires.command.1 in
    let lines : c.args.replies.now ≡ with c.args.replies.now (data_of mail command view live) = sym (g.met.R.Replies.none c.args.replies.now) ∙ ap (λ (l : List Reply). with c.args.replies.now l) (sym (write_data mail command view live write)) in
    let answered = c.in-Ok.ensures.answer mail m c.args.replies.now met (none_damaged mail command view live _ write (c.as_slice.ensures ∙ c.new-none.ensures)) lines in
    (answered.0, ap (λ (x : Member). x.follower.state) c.end_hold.ensures.counted ∙ answered.1)

pub returns-in-Ok-clause-begins : goal.returns-in-Ok-clause-begins
returns-in-Ok-clause-begins g c = hold_begins c.finish.new.s c.end_hold.new.s c.end_hold.ensures.counted (notes_of c.args.s.now) c.in-Ok.ensures.begins

pub returns-in-Ok-clause-ok : goal.returns-in-Ok-clause-ok
returns-in-Ok-clause-ok g c =
    let k = g.K.Keeping in
    let feed = c.args.shared.now.kept.feed in
    let turned = c.in-Ok.ensures.ok in (
      seen_end feed c.args.s.now c.finish.new.s c.end_hold.new.s c.end_hold.ensures.counted k.start k.count turned.all c.end_hold.ensures.session,
      told_end feed c.args.s.now c.finish.new.s c.end_hold.new.s c.end_hold.ensures.counted turned,
    )
