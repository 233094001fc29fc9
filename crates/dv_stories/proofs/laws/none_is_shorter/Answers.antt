use Rattle.dv_stories.proofs.Stories.{stories_never_shorter}
use Rattle.dv_stories.proofs.laws.none_is_shorter.Goals as goal

pub returns : goal.returns
returns c = stories_never_shorter
