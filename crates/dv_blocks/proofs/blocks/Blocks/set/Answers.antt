use Rattle.std.proofs.Common.{◌∙◌, subst, sym}
use Rattle.std.proofs.lemmas.List.{with_items_is}
use Rattle.dv_blocks.specs.Chunks.{AreBlocks, AreChunks, AreCounted}
use Rattle.dv_blocks.proofs.blocks.Blocks.set.Goals as goal

pub invariant_of-self : goal.invariant_of-self
invariant_of-self c =
    let w = c.self.inside.width in
    let back = with_items_is c.self.inside.chunks c.set.new.chunks (c.set.auto.chunks ∙ c.deref_mut.ensures.len) in
    subst (AreBlocks w c.self.inside.starts.items) (sym back)
    (record {
      counted = subst (λ l. AreCounted l c.set.new.chunks) c.deref.ensures.value c.set.ensures.counted;
      are = c.set.ensures.are w (subst (AreChunks w) (sym c.deref_mut.ensures.value) c.self.invariant.are);
    })
