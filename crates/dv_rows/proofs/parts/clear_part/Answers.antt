use Rattle.dv_model.specs.Effects.{with_item, with_row_parts, zeroed}
use Rattle.dv_rows.proofs.PutBack.{written_back}
use Rattle.dv_rows.proofs.parts.clear_part.Goals as goal

pub returns-clause-items : goal.returns-clause-items
returns-clause-items c =
    written_back (with_row_parts (with_item c.args.place zeroed)) c.args.rows.now.items c.as_mut_slice.result.now c.zero_rows.new.rows c.args.rows.now.len c.as_mut_slice.ensures.value c.as_mut_slice.ensures.len c.zero_rows.ensures
