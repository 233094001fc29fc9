use Rattle.std.proofs.Common.{◌≡◌, drop}
use Rattle.dv_pop3.specs.Listings.{size_in}
use Rattle.dv_pop3.proofs.sizes.size_in.Given as goal

abbrev pub invariant-loop-value : goal.invariant-loop-value
invariant-loop-value l = size_in (drop l.value-index l.values) ≡ size_in l.values
