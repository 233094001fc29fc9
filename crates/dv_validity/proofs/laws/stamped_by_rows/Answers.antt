use Rattle.dv_validity.proofs.Comparisons.{flags_by_rows, stamped_alone, stamped_rows}
use Rattle.dv_validity.proofs.laws.stamped_by_rows.Goals as goal

pub returns-clause-alone : goal.returns-clause-alone
returns-clause-alone c = λ m n old row valid in' same. stamped_alone m.rows valid.rising n old row in' same

pub returns-clause-rows : goal.returns-clause-rows
returns-clause-rows c = stamped_rows

pub returns-clause-flags : goal.returns-clause-flags
returns-clause-flags c = flags_by_rows
