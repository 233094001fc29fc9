use Rattle.std.proofs.Common.{◌∙◌, ap, rules, sym}
use Rattle.std.specs.Prelude.{slice_set}
use Rattle.std.proofs.lemmas.List.Edits.{map_over_more}
use Rattle.dv_rows.proofs.Stripped.{bare}
use Rattle.dv_rows.proofs.bare.strip.Goals as goal

pub loop-row-preserved : goal.loop-row-preserved
loop-row-preserved c =
    ap (slice_set c.loop-row.rows c.loop-row.row-index) (c.strip_row.ensures ∙ sym (ap bare c.row-item.is))
    ∙ map_over_more bare c.args.rows.now c.loop-row.rows c.loop-row.row-index c.row-item.result (search rules) c.loop-row.invariant c.row-item.is
