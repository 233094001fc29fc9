use Rattle.std.proofs.Common.{take}
use Rattle.std.specs.Prelude.{All}
use Rattle.dv_apply.specs.Preparing.{IsLight}
use Rattle.dv_apply.proofs.light.are_all_light.Given as goal

abbrev pub invariant-loop-r : goal.invariant-loop-r
invariant-loop-r l = All (λ r. IsLight r.body) (take l.r-index l.records)
