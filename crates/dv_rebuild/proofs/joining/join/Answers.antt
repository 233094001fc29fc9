use Rattle.dv_rebuild.proofs.joining.join.Goals as goal

pub returns-in-Some : goal.returns-in-Some
returns-in-Some c = λ spots before has file. rw c.in-Some.is (c.from_index.ensures spots before has file)

pub returns-in-None : goal.returns-in-None
returns-in-None c = λ spots before has file. rw c.in-None.is (c.from_nothing.ensures spots before has file)
