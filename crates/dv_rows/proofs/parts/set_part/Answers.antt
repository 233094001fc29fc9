use Rattle.std.proofs.Common.{◌≤◌, length, subst, sym}
use Rattle.std.specs.Prelude.{All, IfSome, slice_get}
use Rattle.dv_model.specs.declared.types.Row.{Row}
use Rattle.dv_model.specs.Effects.{with_item, with_row_parts}
use Rattle.dv_rows.specs.Changed.{written_at_front}
use Rattle.dv_rows.proofs.PartChanges.{at_uid}
use Rattle.dv_rows.proofs.PutBack.{written_back}
use Rattle.dv_rows.specs.Kept.{AreRows}
use Rattle.dv_rows.proofs.parts.set_part.Goals as goal

pub set_in-requires : goal.set_in-requires
set_in-requires c = record {
  rows = subst AreRows (sym c.as_mut_slice.ensures.value) c.requires.rows;
  fits = subst (All (λ (row : Row). IfSome (slice_get row.parts c.args.place) (λ part. length c.args.bytes.now ≤ length part))) (sym c.as_mut_slice.ensures.value) c.requires.fits;
}

pub returns-clause-items : goal.returns-clause-items
returns-clause-items c =
    written_back (at_uid c.args.uid (with_row_parts (with_item c.args.place (written_at_front c.args.bytes.now)))) c.args.rows.now.items c.as_mut_slice.result.now c.set_in.new.rows c.args.rows.now.len c.as_mut_slice.ensures.value c.as_mut_slice.ensures.len c.set_in.ensures
