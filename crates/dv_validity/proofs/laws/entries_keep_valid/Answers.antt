use Rattle.dv_validity.proofs.Entries.{entry_is_in_range, entry_resets, entry_valid}
use Rattle.dv_validity.proofs.laws.entries_keep_valid.Goals as goal

pub returns-clause-range : goal.returns-clause-range
returns-clause-range c = entry_is_in_range

pub returns-clause-valid : goal.returns-clause-valid
returns-clause-valid c = entry_valid

pub returns-clause-resets : goal.returns-clause-resets
returns-clause-resets c = entry_resets
