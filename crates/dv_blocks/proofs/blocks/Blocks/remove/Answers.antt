use Rattle.dv_blocks.proofs.blocks.Blocks.remove.Goals as goal

pub settle-requires : goal.settle-requires
settle-requires c = (c.self.inside.width, c.remove.ensures.are c.self.inside.width c.self.invariant)

pub invariant_of-self : goal.invariant_of-self
invariant_of-self c = c.settle.ensures.are c.self.inside.width (c.remove.ensures.are c.self.inside.width c.self.invariant)
