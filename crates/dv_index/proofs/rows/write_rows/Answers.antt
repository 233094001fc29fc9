use Rattle.std.proofs.Common.{◌<◌, All, subst}
use Rattle.std.proofs.lemmas.List.Elements.{All-more}
use Rattle.dv_model.specs.declared.types.Row.{Row}
use Rattle.dv_formats.specs.Snapshots.{AreBytes, row_text}
use Rattle.dv_index.proofs.Texts.{text_more}
use Rattle.dv_index.proofs.rows.write_rows.Goals as goal

pub loop-row-preserved : goal.loop-row-preserved
loop-row-preserved c = record {
  text = text_more (row_text 2 c.args.m.now) c.args.rows.now c.loop-row.row-index c.row-item.result c.args.out.now c.loop-row.out c.write_row.new.out c.loop-row-test.true c.row-item.is
      c.loop-row.invariant.text c.in_ok-write_row.ensures.text;
  flags = All-more (λ (row : Row). row.flags < 256) c.args.rows.now c.loop-row.row-index c.row-item.result c.loop-row-test.true c.loop-row.invariant.flags
      (subst (λ (row : Row). row.flags < 256) c.row-item.is c.in_ok-write_row.ensures.flags);
  parts = All-more (λ (row : Row). All AreBytes row.parts) c.args.rows.now c.loop-row.row-index c.row-item.result c.loop-row-test.true c.loop-row.invariant.parts
      (subst (λ (row : Row). All AreBytes row.parts) c.row-item.is c.in_ok-write_row.ensures.parts);
}
