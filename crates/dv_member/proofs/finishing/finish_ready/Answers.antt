use Rattle.std.proofs.Common.{◌≡◌, subst}
use Rattle.dv_model.specs.Sessions.{answer, data_of}
use Rattle.dv_responses.specs.Damaged.{damaged_uids}
use Rattle.dv_responses.specs.Met.{met_of}
use Rattle.dv_answer.specs.Answers.{IsAnswered}
use Rattle.dv_answer.specs.Following.{Follower}
use Rattle.dv_member.proofs.finishing.finish_ready.Goals as goal

pub returns-in-Ok-clause-answer : goal.returns-in-Ok-clause-answer
returns-in-Ok-clause-answer g c = λ mail met_mailbox start met damaged lines.
    let with = g.R.Replies.with in
    let command = c.args.c.now in
    let live = c.args.live.now.mailbox in
    subst (λ (f : Follower). c.args.met ≡ met_of command f.state.view met_mailbox → c.args.damaged.now ≡ damaged_uids mail command f.state.view live
    → c.args.replies.now ≡ with start (data_of mail command f.state.view live)
    → IsAnswered with start c.finish.new.replies c.finish.new.self.state (answer mail f.state command met_mailbox c.args.ready.seen live c.args.ready.mark))
    c.replace_touched-before.ensures.is (c.in-Ok.ensures.answer mail met_mailbox start) met damaged lines
