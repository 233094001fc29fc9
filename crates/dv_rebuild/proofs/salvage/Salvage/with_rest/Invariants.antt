use Rattle.std.proofs.Common.{◌-◌, length}
use Rattle.dv_rebuild.specs.Walks.{salvaged_of}
use Rattle.dv_rebuild.proofs.Walks.{Salvaging}
use Rattle.dv_rebuild.proofs.salvage.Salvage.with_rest.Given as goal

abbrev pub invariant-loop-salvage : goal.invariant-loop-salvage
invariant-loop-salvage l = Salvaging l.b l.from (salvaged_of l.fn.self) l.at (salvaged_of l.salvage)

abbrev pub decreases-loop-salvage : goal.decreases-loop-salvage
decreases-loop-salvage l = length l.b - l.at
