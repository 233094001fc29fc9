use Rattle.std.proofs.Common.{◌≡◌, map, take}
use Rattle.dv_lookups.specs.Headers.{at_name}
use Rattle.dv_lookups.proofs.headers.with_values.Given as goal

abbrev pub invariant-loop-name : goal.invariant-loop-name
invariant-loop-name l = l.pairs ≡ map (λ name. (name, at_name l.values name)) (take l.name-index l.names)
