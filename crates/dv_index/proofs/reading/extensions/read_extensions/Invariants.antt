use Rattle.dv_index.proofs.Extensions.{AreTextsTo}
use Rattle.dv_index.proofs.reading.extensions.read_extensions.Given as goal

abbrev pub invariant-loop : goal.invariant-loop
invariant-loop l = AreTextsTo l.count l.counter l.extensions l.rest l.b
