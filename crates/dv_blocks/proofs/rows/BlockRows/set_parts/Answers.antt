use Rattle.std.proofs.Common.{◌∙◌}
use Rattle.dv_blocks.proofs.rows.BlockRows.set_parts.Goals as goal

pub invariant_of-self : goal.invariant_of-self
invariant_of-self c = record {
  shared = c.set_parts.ensures.shared c.self.inside.held.items c.self.inside.sets.items c.self.invariant.shared;
  width = c.set_parts.ensures.width ∙ c.self.invariant.width;
}
