use Rattle.dv_memory_system.proofs.Shown.{synced_doubted, synced_shown}
use Rattle.dv_memory_system.proofs.state.State.synced.Goals as goal

pub returns-then-self : goal.returns-then-self
returns-then-self c = λ at shown. synced_doubted at c.args.self c.if-self.true shown

pub returns : goal.returns
returns c = λ at shown. synced_shown at c.args.self c.in_ok-first.first c.if-self.false c.in_ok-first.ensures shown
