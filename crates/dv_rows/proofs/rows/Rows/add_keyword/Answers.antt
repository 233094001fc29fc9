use Rattle.std.proofs.Common.{arith}
use Rattle.dv_model.specs.declared.types.How.TheVariants.{Add}
use Rattle.dv_model.specs.declared.types.Row.{Row}
use Rattle.dv_model.specs.Effects.{keywords_after}
use Rattle.dv_validity.specs.Laws.{restamped}
use Rattle.dv_rows.specs.Changed.{changed_keywords}
use Rattle.dv_rows.proofs.OtherPlaces.{same_flags, same_uid}
use Rattle.dv_rows.proofs.Rising.{counted_mapped}
use Rattle.dv_rows.proofs.rows.Rows.add_keyword.Goals as goal

pub invariant_of-self-2 : goal.invariant_of-self-2
invariant_of-self-2 c = record {
  counted = rw c.in_ok-add_keyword.ensures.ok
      (counted_mapped (λ (row : Row). restamped c.args.modseq row (changed_keywords c.args.pairs.now (keywords_after Add c.args.place) row))
      (same_uid c.args.pairs.now (keywords_after Add c.args.place) c.args.modseq) (same_flags c.args.pairs.now (keywords_after Add c.args.place) c.args.modseq) c.self.inside.rows.items c.self.inside.notes.items c.self.inside.counts c.self.invariant.counted);
  for_rows = omega (arith, c.in_ok-add_keyword.ensures.len, c.in_ok-add_keyword.ensures.capacity);
  for_notes = c.self.invariant.for_notes;
}
