use Rattle.std.proofs.Common.{◌∙◌, subst, sym}
use Rattle.std.specs.Vec.{with_items}
use Rattle.std.proofs.lemmas.List.{with_items_is}
use Rattle.dv_blocks.specs.Chunks.{AreBlocks}
use Rattle.dv_blocks.proofs.joining.settle.Goals as goal

pub join-requires-2 : goal.join-requires-2
join-requires-2 c = (c.requires.0, c.join.ensures.are c.requires.0 c.requires.1)

pub join-requires-3 : goal.join-requires-3
join-requires-3 c = (c.requires.0, c.join-2.ensures.are c.requires.0 (c.join.ensures.are c.requires.0 c.requires.1))

pub returns-clause-are : goal.returns-clause-are
returns-clause-are c w are =
    let once = with_items_is c.join-3.new.chunks c.fit.new.chunks (c.fit.auto.chunks ∙ c.as_mut_slice.ensures.len) in
    let twice = with_items_is (with_items c.join-3.new.chunks c.fit.new.chunks) c.fit-2.new.chunks (c.fit-2.auto.chunks ∙ c.as_mut_slice-2.ensures.len) in
    let chunks = twice ∙ c.fit-2.ensures ∙ c.as_mut_slice-2.ensures.value ∙ once ∙ c.fit.ensures ∙ c.as_mut_slice.ensures.value in
    subst (AreBlocks w c.join-3.new.starts.items) (sym chunks) (c.join-3.ensures.are w (c.join-2.ensures.are w (c.join.ensures.are w are)))
