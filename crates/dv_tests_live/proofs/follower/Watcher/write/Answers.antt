use Rattle.dv_tests_live.proofs.follower.Watcher.write.Goals as goal

pub keep_up-requires : goal.keep_up-requires
keep_up-requires c = c.in_ok-touched.ensures c.args.self.now.saved c.requires
