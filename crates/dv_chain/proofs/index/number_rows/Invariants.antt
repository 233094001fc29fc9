use Rattle.std.proofs.Common.{◌≡◌, ◌++◌, take, drop}
use Rattle.std.specs.Prelude.{map}
use Rattle.dv_openings.specs.Openings.{numbered_row}
use Rattle.dv_chain.proofs.index.number_rows.Given as goal

abbrev pub invariant-loop-row : goal.invariant-loop-row
invariant-loop-row l = l.rows ≡ map (numbered_row l.n) (take l.row-index l.initial.rows) ++ drop l.row-index l.initial.rows
