use Rattle.std.proofs.Common.{◌∙◌, ap, rules, sym}
use Rattle.std.specs.Prelude.{slice_set}
use Rattle.std.proofs.lemmas.List.Edits.{map_over_more}
use Rattle.dv_model.specs.declared.types.Row.{Row}
use Rattle.dv_openings.specs.Openings.{numbered_row}
use Rattle.dv_chain.proofs.index.number_rows.Goals as goal

pub loop-row-preserved : goal.loop-row-preserved
loop-row-preserved c =
    let f : Row → Row = numbered_row c.args.n in
    ap (λ (row : Row). slice_set c.loop-row.rows c.loop-row.row-index (f row)) (sym c.row-item.is)
    ∙ map_over_more f c.args.rows.now c.loop-row.rows c.loop-row.row-index c.row-item.result (search rules) c.loop-row.invariant c.row-item.is
