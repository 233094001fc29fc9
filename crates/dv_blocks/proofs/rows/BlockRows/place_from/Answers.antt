use Rattle.std.proofs.Common.{◌∙◌, List, ℕ, ap, map, subst, sym}
use Rattle.dv_model.specs.declared.types.Row.{Row}
use Rattle.dv_blocks.specs.Chunks.{IsPlace}
use Rattle.dv_blocks.specs.Shared.{Rows}
use Rattle.dv_blocks.proofs.Seen.{uids_seen}
use Rattle.dv_blocks.proofs.rows.BlockRows.place_from.Goals as goal

pub returns-clause-is : goal.returns-clause-is
returns-clause-is c =
    let same = sym (uids_seen c.self.inside.sets.items c.self.inside.sizes.items c.self.inside.blocks.cells) ∙ ap (λ (r : Rows). map (λ (x : Row). x.uid) r.rows) c.self.view_is in
    subst (λ (l : List ℕ). IsPlace l c.args.uid c.place_from.result) same c.place_from.ensures.is
