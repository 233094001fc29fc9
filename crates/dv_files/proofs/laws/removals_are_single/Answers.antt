use Rattle.dv_files.proofs.Removing.{each_swept}
use Rattle.dv_files.proofs.laws.removals_are_single.Goals as goal

pub returns : goal.returns
returns c = λ uids old new some n. each_swept uids old new some n
