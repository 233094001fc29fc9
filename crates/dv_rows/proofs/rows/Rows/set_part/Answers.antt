use Rattle.std.proofs.Common.{◌≤◌, ap, arith, length, subst, sym}
use Rattle.std.specs.Prelude.{All, IfSome, slice_get}
use Rattle.dv_model.specs.declared.types.Row.{Row}
use Rattle.dv_model.specs.Effects.{with_item, with_row_parts}
use Rattle.dv_rows.specs.Changed.{written_at_front}
use Rattle.dv_rows.proofs.PartChanges.{at_uid, same_flags, same_uid}
use Rattle.dv_rows.proofs.Rising.{counted_mapped}
use Rattle.dv_rows.specs.Kept.{Kept}
use Rattle.dv_rows.proofs.rows.Rows.set_part.Goals as goal

pub set_part-requires : goal.set_part-requires
set_part-requires c = record {
  rows = c.self.invariant.counted.are;
  fits = subst (All (λ (row : Row). IfSome (slice_get row.parts c.args.place) (λ part. length c.args.bytes.now ≤ length part))) (sym (ap (λ (kept : Kept). kept.rows) c.self.view_is)) c.requires;
}

pub invariant_of-self : goal.invariant_of-self
invariant_of-self c = record {
  counted = rw c.set_part.ensures.items
      (counted_mapped (at_uid c.args.uid (with_row_parts (with_item c.args.place (written_at_front c.args.bytes.now)))) (same_uid c.args.uid (with_item c.args.place (written_at_front c.args.bytes.now))) (same_flags c.args.uid (with_item c.args.place (written_at_front c.args.bytes.now)))
      c.self.inside.rows.items c.self.inside.notes.items c.self.inside.counts c.self.invariant.counted);
  for_rows = omega arith;
  for_notes = c.self.invariant.for_notes;
}
