use Rattle.dv_memory_system.proofs.Shown.{hid_at_another}
use Rattle.dv_memory_system.proofs.state.States.renamed_away.Goals as goal

pub returns-then-is_seen : goal.returns-then-is_seen
returns-then-is_seen c = λ disk name other differs are. rw c.if-is_seen.true (c.without_temporary.ensures disk name other differs are)

pub returns-else-is_seen : goal.returns-else-is_seen
returns-else-is_seen c = λ disk name other differs are. rw c.if-is_seen.false (hid_at_another disk name other c.args.self differs are)
