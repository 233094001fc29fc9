use Rattle.dv_maps.proofs.Spelled as spelled
use Rattle.dv_maps.proofs.laws.records_are_written.Goals as goal

pub returns-clause-counts : goal.returns-clause-counts
returns-clause-counts c = spelled.counts_written

pub returns-clause-saves : goal.returns-clause-saves
returns-clause-saves c = spelled.saves_written
