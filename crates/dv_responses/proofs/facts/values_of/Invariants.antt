use Rattle.std.proofs.Common.{◌≡◌, take}
use Rattle.dv_responses.specs.Supplied.{values_of}
use Rattle.dv_responses.proofs.facts.values_of.Given as goal

abbrev pub invariant-loop-name : goal.invariant-loop-name
invariant-loop-name l = l.values ≡ values_of l.message (take l.name-index l.names)
