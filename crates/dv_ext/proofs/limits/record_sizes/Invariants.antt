use Rattle.std.proofs.Common.{◌≡◌, sum_by, take}
use Rattle.dv_ext.proofs.limits.record_sizes.Given as goal

abbrev pub invariant-loop-extension : goal.invariant-loop-extension
invariant-loop-extension l = l.sum ≡ sum_by (λ e. e.record_size) (take l.extension-index l.list)
