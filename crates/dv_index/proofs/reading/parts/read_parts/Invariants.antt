use Rattle.dv_index.proofs.Parts.{ArePartsTo}
use Rattle.dv_index.proofs.reading.parts.read_parts.Given as goal

abbrev pub invariant-loop-e : goal.invariant-loop-e
invariant-loop-e l = ArePartsTo l.es l.e-index l.parts l.rest l.b
