use Rattle.std.proofs.Common.{◌≡◌, drop}
use Rattle.dv_blocks.specs.Shared.{cut}
use Rattle.dv_blocks.proofs.row.part_at.Given as goal

abbrev pub invariant-loop-k : goal.invariant-loop-k
invariant-loop-k l = cut (drop l.k l.sizes) l.rest ≡ drop l.k (cut l.sizes l.parts)
