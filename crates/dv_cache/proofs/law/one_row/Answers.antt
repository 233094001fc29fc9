use Rattle.dv_cache.proofs.Rows as rows
use Rattle.dv_cache.proofs.law.one_row.Goals as goal

pub returns : goal.returns
returns c = rows.one_row
