use Rattle.dv_memory_system.proofs.Shown.{swept_unsure, swept_shown}
use Rattle.dv_memory_system.proofs.state.State.swept.Goals as goal

pub returns-then-self : goal.returns-then-self
returns-then-self c = λ at shown. swept_unsure at c.args.self c.if-self.true shown

pub returns : goal.returns
returns c = λ at shown. swept_shown at c.args.self c.new-others.result c.if-self.false c.new-others.ensures shown
