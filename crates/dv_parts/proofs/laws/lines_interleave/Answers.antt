use Rattle.dv_parts.proofs.Interleaving.{lines_are_numbered, one_parting, parts_add_up, parts_interleave}
use Rattle.dv_parts.proofs.laws.lines_interleave.Goals as goal

pub returns-clause-numbers : goal.returns-clause-numbers
returns-clause-numbers c = lines_are_numbered

pub returns-clause-parts : goal.returns-clause-parts
returns-clause-parts c = parts_interleave

pub returns-clause-sum : goal.returns-clause-sum
returns-clause-sum c = parts_add_up

pub returns-clause-one : goal.returns-clause-one
returns-clause-one c = one_parting
