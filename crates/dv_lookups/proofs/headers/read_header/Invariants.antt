use Rattle.std.proofs.Common.{ℕ, List, length}
use Rattle.dv_model.specs.Fields.{header_lines, unfolded}
use Rattle.dv_lookups.specs.Headers.{IsAsked, IsTold}
use Rattle.dv_lookups.proofs.headers.read_header.Given as goal

abbrev pub invariant-loop-rest : goal.invariant-loop-rest
invariant-loop-rest l = (name : List ℕ) → IsAsked l.fn.missing name → IsTold (unfolded (header_lines l.message)) (unfolded (header_lines l.rest)) l.missing l.values name

abbrev pub decreases-loop-rest : goal.decreases-loop-rest
decreases-loop-rest l = length l.rest
