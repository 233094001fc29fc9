use Rattle.std.proofs.Common.{refl, arith}
use Rattle.dv_model.specs.Effects.{with_row_parts}
use Rattle.dv_ext.specs.Sizes.{fitted, sizes_of}
use Rattle.dv_rows.proofs.Rising.{counted_mapped}
use Rattle.dv_rows.proofs.rows.Rows.fit_parts.Goals as goal

pub invariant_of-self : goal.invariant_of-self
invariant_of-self c = record {
  counted = rw c.in_err-fit_parts.ensures.err c.self.invariant.counted;
  for_rows = omega arith;
  for_notes = c.self.invariant.for_notes;
}

pub invariant_of-self-2 : goal.invariant_of-self-2
invariant_of-self-2 c = record {
  counted = rw c.in_ok-fit_parts.ensures.ok
      (counted_mapped (with_row_parts (fitted (sizes_of c.args.extensions.now))) (λ row. refl) (λ row. refl) c.self.inside.rows.items c.self.inside.notes.items c.self.inside.counts c.self.invariant.counted);
  for_rows = omega arith;
  for_notes = c.self.invariant.for_notes;
}
