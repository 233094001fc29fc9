use Rattle.dv_transcripts.proofs.follower.Follower.write.Goals as goal

pub returns-clause-abreast : goal.returns-clause-abreast
returns-clause-abreast c = c.in_ok-touch.ensures.abreast c.args.self.now.live.mailbox c.apply.new.live.mailbox c.requires c.in_ok-touched.ensures
