use Rattle.std.proofs.Common.{refl, arith}
use Rattle.dv_model.specs.Effects.{with_item, with_row_parts, zeroed}
use Rattle.dv_rows.proofs.Rising.{counted_mapped}
use Rattle.dv_rows.proofs.rows.Rows.clear_part.Goals as goal

pub invariant_of-self : goal.invariant_of-self
invariant_of-self c = record {
  counted = rw c.clear_part.ensures.items
      (counted_mapped (with_row_parts (with_item c.args.place zeroed)) (λ row. refl) (λ row. refl) c.self.inside.rows.items c.self.inside.notes.items c.self.inside.counts c.self.invariant.counted);
  for_rows = omega arith;
  for_notes = c.self.invariant.for_notes;
}
