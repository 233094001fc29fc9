use Rattle.dv_keywords.proofs.Readings as readings
use Rattle.dv_keywords.proofs.law.one_table.Goals as goal

pub returns : goal.returns
returns c = readings.one_table
