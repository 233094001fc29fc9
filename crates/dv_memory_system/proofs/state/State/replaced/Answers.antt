use Rattle.dv_memory_system.proofs.state.State.replaced.Goals as goal

pub returns-then-is_seen : goal.returns-then-is_seen
returns-then-is_seen c = λ at v shown are. rw c.if-is_seen.true (c.put.ensures at v shown are)

pub returns-else-is_seen : goal.returns-else-is_seen
returns-else-is_seen c = λ at v shown are. rw c.if-is_seen.false (c.hidden.ensures at v shown are)
