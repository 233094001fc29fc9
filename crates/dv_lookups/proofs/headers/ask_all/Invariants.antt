use Rattle.std.proofs.Common.{◌<◌, ℕ, List, get_or}
use Rattle.dv_lookups.specs.Headers.{IsAsked}
use Rattle.dv_lookups.proofs.headers.ask_all.Given as goal

abbrev pub invariant-loop-name : goal.invariant-loop-name
invariant-loop-name l = (k : ℕ) (d : List ℕ) → k < l.name-index → IsAsked l.missing (get_or l.names k d)
