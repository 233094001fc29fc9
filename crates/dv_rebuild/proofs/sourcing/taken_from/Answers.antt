use Rattle.dv_rebuild.proofs.sourcing.taken_from.Goals as goal

pub returns-in-Some : goal.returns-in-Some
returns-in-Some c = λ spots before has file. rw c.in-Some.is (c.taken_behind.ensures spots before has file)
