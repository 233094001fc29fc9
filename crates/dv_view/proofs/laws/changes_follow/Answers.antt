use Rattle.dv_view.proofs.Followed.{changes_follow}
use Rattle.dv_view.proofs.laws.changes_follow.Goals as goal

pub returns : goal.returns
returns c = changes_follow
