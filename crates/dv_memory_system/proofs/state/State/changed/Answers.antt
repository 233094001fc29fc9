use Rattle.dv_memory_system.proofs.state.State.changed.Goals as goal

pub returns-in-Found : goal.returns-in-Found
returns-in-Found c = λ at shown. rw c.in-Found.is (c.found.ensures at)

pub returns-in-Create : goal.returns-in-Create
returns-in-Create c = λ at shown. rw c.in-Create.is (c.made.ensures at shown)

pub returns-in-Write : goal.returns-in-Write
returns-in-Write c = λ at shown. rw c.in-Write.is (c.written.ensures at shown)

pub returns-in-Unlink : goal.returns-in-Unlink
returns-in-Unlink c = λ at shown. rw c.in-Unlink.is (c.removed.ensures at shown)

pub returns-in-Sync : goal.returns-in-Sync
returns-in-Sync c = λ at shown. rw c.in-Sync.is (c.sync_answered.ensures at c.args.bytes.now shown)
