use Rattle.dv_validity.proofs.Entries.{group_is_entry}
use Rattle.dv_validity.proofs.Groups.{group_applies}
use Rattle.dv_validity.proofs.laws.groups_are_entries.Goals as goal

pub returns-clause-entry : goal.returns-clause-entry
returns-clause-entry c = group_is_entry

pub returns-clause-applies : goal.returns-clause-applies
returns-clause-applies c = group_applies
