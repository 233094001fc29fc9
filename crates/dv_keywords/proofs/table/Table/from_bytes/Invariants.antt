use Rattle.dv_keywords.specs.Finding.{FindsAll}
use Rattle.dv_keywords.proofs.Readings.{IsReadTo}
use Rattle.dv_keywords.proofs.table.Table.from_bytes.Given as goal

abbrev pub invariant-loop-place : goal.invariant-loop-place
invariant-loop-place l = IsReadTo l.b l.names.items l.at l.place × FindsAll l.index.map l.names.items
