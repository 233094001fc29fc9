use Rattle.dv_answer.proofs.Keeping.{record_leads}
use Rattle.dv_transcripts.proofs.follower.apply.Goals as goal

pub returns-in-Ok : goal.returns-in-Ok
returns-in-Ok c =
    record_leads c.args.live.now.mailbox c.apply_touched.new.self.mailbox c.in_ok-record.record c.empty-touched.result c.apply_touched.new.touched c.next_uid-before.ensures.valid c.next_uid-behind.ensures.valid c.in-Ok.ensures.ok
    c.empty-touched.ensures c.in-Ok.ensures.touched
