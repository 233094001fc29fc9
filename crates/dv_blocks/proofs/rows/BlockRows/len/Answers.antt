use Rattle.std.proofs.Common.{◌∙◌, ap, map, subst, sym}
use Rattle.dv_model.specs.declared.types.Row.{Row}
use Rattle.dv_blocks.specs.Chunks.{AreRising}
use Rattle.dv_blocks.specs.Shared.{Rows}
use Rattle.dv_blocks.proofs.Seen.{uids_seen}
use Rattle.dv_blocks.proofs.rows.BlockRows.len.Goals as goal

pub returns-clause-rising : goal.returns-clause-rising
returns-clause-rising c =
    let same = sym (uids_seen c.self.inside.sets.items c.self.inside.sizes.items c.self.inside.blocks.cells) ∙ ap (λ (r : Rows). map (λ (x : Row). x.uid) r.rows) c.self.view_is in
    subst AreRising same c.len.ensures.rising
