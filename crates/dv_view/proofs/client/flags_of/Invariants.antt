use Rattle.std.proofs.Common.{◌≡◌, drop}
use Rattle.dv_view.specs.Clients.{flags_of}
use Rattle.dv_view.proofs.client.flags_of.Given as goal

abbrev pub invariant-loop-value : goal.invariant-loop-value
invariant-loop-value l = flags_of (drop l.value-index l.values) ≡ flags_of l.values
