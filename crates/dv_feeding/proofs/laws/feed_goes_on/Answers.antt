use Rattle.dv_feeding.proofs.Feeds.{begins, feed_extends, is_taken}
use Rattle.dv_feeding.proofs.laws.feed_goes_on.Goals as goal

pub returns-clause-prefix : goal.returns-clause-prefix
returns-clause-prefix c = begins

pub returns-clause-taken : goal.returns-clause-taken
returns-clause-taken c = is_taken

pub returns-clause-extends : goal.returns-clause-extends
returns-clause-extends c = feed_extends
