use Rattle.dv_stories.proofs.Stories.{begins, ends, goes_on, own_refusals, sees_more}
use Rattle.dv_stories.proofs.laws.stories_go_on.Goals as goal

pub returns-clause-begins : goal.returns-clause-begins
returns-clause-begins c = begins

pub returns-clause-sees : goal.returns-clause-sees
returns-clause-sees c = sees_more

pub returns-clause-on : goal.returns-clause-on
returns-clause-on c = goes_on

pub returns-clause-ends : goal.returns-clause-ends
returns-clause-ends c = ends

pub returns-clause-own : goal.returns-clause-own
returns-clause-own c = own_refusals
