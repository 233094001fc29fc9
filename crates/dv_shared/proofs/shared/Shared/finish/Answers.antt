use Rattle.std.proofs.Common.{◌≡◌, List, OnOk, ap, length, subst}
use Rattle.dv_apply.specs.States.{Held}
use Rattle.dv_model.specs.declared.types.Mailbox.{Mailbox}
use Rattle.dv_model.specs.Journals.{mark_of}
use Rattle.dv_model.specs.Sessions.{answer, data_of}
use Rattle.dv_front.specs.declared.notes.Note.{Note}
use Rattle.dv_generations.specs.Feeds.{journal}
use Rattle.dv_notes.specs.Logs.{log_of}
use Rattle.dv_responses.specs.Damaged.{damaged_uids}
use Rattle.dv_answer.specs.Answers.{IsAnswered}
use Rattle.dv_shared.specs.Kept.{Kept, Locked, notes_in}
use Rattle.dv_shared.proofs.shared.Shared.finish.Goals as goal

pub returns-clause-answer : goal.returns-clause-answer
returns-clause-answer g c = λ mail met_mailbox first met damaged lines.
    let with = g.R.Replies.with in
    let command = c.args.c.now in
    let state = c.args.s.now.follower.state in
    let Says : Mailbox → List Note → Type 0 = λ m notes. c.args.damaged.now ≡ damaged_uids mail command state.view m → c.args.replies.now ≡ with first (data_of mail command state.view m)
    → OnOk c.finish.result (IsAnswered with first c.finish.new.replies c.finish.new.self.follower.state
    (answer mail state command met_mailbox (length notes) m (mark_of (log_of g.K.Keeping.start notes) (length notes)))) in
    let here = subst (λ (m : Mailbox). Says m (journal c.self.inside.journal.feed)) (ap (λ (x : Held). x.mailbox) c.live.ensures) (c.finish.ensures.answer mail met_mailbox first met) in
    subst (λ (k : Kept g.row.S.Denot g.row.C.Denot). Says k.store.chain.live.mailbox (notes_in k)) (ap (λ (l : Locked g.row.S.Denot g.row.C.Denot). l.kept) c.self.view_is) here damaged lines
