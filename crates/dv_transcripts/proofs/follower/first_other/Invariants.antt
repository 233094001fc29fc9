use Rattle.dv_answer.specs.Following.{IsAbreast}
use Rattle.dv_transcripts.proofs.follower.first_other.Given as goal

abbrev pub invariant-loop-at : goal.invariant-loop-at
invariant-loop-at l = IsAbreast l.follower.live.mailbox l.follower.session
