use Rattle.std.proofs.Common.{◌≡◌, ◌-◌, ◌^◌, min, take}
use Rattle.std.specs.Prelude.{sum_by}
use Rattle.dv_sets.proofs.intervals.most_places.Given as goal

abbrev pub invariant-loop-interval : goal.invariant-loop-interval
invariant-loop-interval l = l.most ≡ min (sum_by (λ interval. interval.to - interval.from) (take l.interval-index l.intervals)) (2 ^ 32 - 1)
