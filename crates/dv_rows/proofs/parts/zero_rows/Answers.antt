use Rattle.std.proofs.Common.{◌∙◌, ap, rules, sym}
use Rattle.std.specs.Prelude.{slice_set}
use Rattle.std.proofs.lemmas.List.Edits.{map_over_more}
use Rattle.dv_model.specs.declared.types.Row.{Row}
use Rattle.dv_model.specs.Effects.{with_item, with_row_parts, zeroed}
use Rattle.dv_rows.proofs.parts.zero_rows.Goals as goal

pub loop-row-preserved : goal.loop-row-preserved
loop-row-preserved c =
    let f : Row → Row = with_row_parts (with_item c.args.place zeroed) in
    ap (slice_set c.loop-row.rows c.loop-row.row-index) (c.zero_in.ensures ∙ sym (ap f c.row-item.is))
    ∙ map_over_more f c.args.rows.now c.loop-row.rows c.loop-row.row-index c.row-item.result (search rules) c.loop-row.invariant c.row-item.is
