use Rattle.dv_memory_system.proofs.state.State.folder_synced.Goals as goal

pub returns-then-is_done : goal.returns-then-is_done
returns-then-is_done c = λ at shown. rw c.if-is_done.true (c.swept.ensures at shown)

pub returns-else-is_done : goal.returns-else-is_done
returns-else-is_done c = λ at shown. rw c.if-is_done.false (c.unsure.ensures at shown)
