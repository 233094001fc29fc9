use Rattle.dv_memory_system.proofs.state.States.renamed_here.Goals as goal

pub returns-then-is_seen : goal.returns-then-is_seen
returns-then-is_seen c = λ disk name are. rw c.if-is_seen.true (c.put.ensures disk name are)

pub returns-else-is_seen : goal.returns-else-is_seen
returns-else-is_seen c = λ disk name are. rw c.if-is_seen.false (c.hidden.ensures disk name are)
