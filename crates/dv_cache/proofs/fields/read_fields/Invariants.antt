use Rattle.dv_cache.proofs.FieldTexts.{IsReadTo}
use Rattle.dv_cache.proofs.fields.read_fields.Given as goal

abbrev pub invariant-loop : goal.invariant-loop
invariant-loop l = IsReadTo l.b l.fields l.rest l.counter
