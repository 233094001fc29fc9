use Rattle.std.proofs.Common.{◌≡◌}
use Rattle.dv_answer.specs.Following.{IsAbreast}
use Rattle.dv_transcripts.proofs.follower.Follower.write_all.Given as goal

abbrev pub invariant-loop-bytes : goal.invariant-loop-bytes
invariant-loop-bytes l = record {
  abreast : IsAbreast l.self.live.mailbox l.self.session;
  state : l.self.session.state ≡ l.fn.self.session.state;
}
