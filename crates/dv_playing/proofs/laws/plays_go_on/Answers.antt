use Rattle.dv_playing.proofs.Plays.{goes_on, replies_go_on}
use Rattle.dv_playing.proofs.laws.plays_go_on.Goals as goal

pub returns-clause-play : goal.returns-clause-play
returns-clause-play c = goes_on

pub returns-clause-replies : goal.returns-clause-replies
returns-clause-replies c = replies_go_on
