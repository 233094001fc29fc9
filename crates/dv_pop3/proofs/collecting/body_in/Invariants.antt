use Rattle.std.proofs.Common.{◌≡◌, drop}
use Rattle.dv_pop3.specs.Retrievals.{body_in}
use Rattle.dv_pop3.proofs.collecting.body_in.Given as goal

abbrev pub invariant-loop-value : goal.invariant-loop-value
invariant-loop-value l = body_in (drop l.value-index l.values) ≡ body_in l.values
