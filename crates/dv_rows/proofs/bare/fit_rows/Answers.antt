use Rattle.std.proofs.Common.{◌≡◌, ◌∙◌, ap, map, rules, sym}
use Rattle.std.specs.Prelude.{slice_set}
use Rattle.std.proofs.lemmas.List.{set-get_or}
use Rattle.std.proofs.lemmas.List.Edits.{map_over_more}
use Rattle.dv_model.specs.declared.types.Row.{Row}
use Rattle.dv_ext.specs.Sizes.{fitted, sizes_of}
use Rattle.dv_model.specs.Effects.{with_row_parts}
use Rattle.dv_rows.proofs.Stripped.{bare, of_some_changed, on_err}
use Rattle.dv_rows.proofs.bare.fit_rows.Goals as goal

pub loop-row-preserved : goal.loop-row-preserved
loop-row-preserved c =
    let f : Row → Row = with_row_parts (fitted (sizes_of c.args.extensions.now)) in
    ap (slice_set c.loop-row.rows c.loop-row.row-index) (c.in_ok-fit_row.ensures.ok ∙ sym (ap f c.row-item.is))
    ∙ map_over_more f c.args.rows.now c.loop-row.rows c.loop-row.row-index c.row-item.result (search rules) c.loop-row.invariant c.row-item.is

pub returns-in_err-fit_row-clause-err : goal.returns-in_err-fit_row-clause-err
returns-in_err-fit_row-clause-err c =
    let same : slice_set c.loop-row.rows c.loop-row.row-index c.fit_row.new.row ≡ c.loop-row.rows =
    ap (slice_set c.loop-row.rows c.loop-row.row-index) c.in_err-fit_row.ensures.err ∙ set-get_or c.loop-row.rows c.loop-row.row-index c.row-item.result in
    let stripped : map bare (slice_set c.loop-row.rows c.loop-row.row-index c.fit_row.new.row) ≡ map bare c.args.rows.now =
    ap (map bare) (same ∙ c.loop-row.invariant) ∙ of_some_changed (fitted (sizes_of c.args.extensions.now)) c.args.rows.now c.loop-row.row-index in
    on_err c.from_residual.result stripped
