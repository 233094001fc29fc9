use Rattle.dv_memory_system.proofs.state.State.sync_answered.Goals as goal

pub returns-then-is_done : goal.returns-then-is_done
returns-then-is_done c = λ at bytes shown. rw c.if-is_done.true (c.synced.ensures at shown)

pub returns-else-is_done : goal.returns-else-is_done
returns-else-is_done c = λ at bytes shown. rw c.if-is_done.false (c.doubted.ensures at shown)
