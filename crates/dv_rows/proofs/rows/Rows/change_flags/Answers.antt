use Rattle.std.proofs.Common.{◌≡◌, ◌∙◌, ap, arith, fold, length, refl}
use Rattle.std.specs.Prelude.{map}
use Rattle.dv_model.specs.declared.types.Change.{Change}
use Rattle.dv_model.specs.declared.types.Row.{Row}
use Rattle.dv_validity.specs.Laws.{changed_flags, restamped}
use Rattle.dv_rows.specs.Kept.{Kept}
use Rattle.dv_rows.specs.Noted.{noted}
use Rattle.dv_rows.specs.Steps.{flags_changed, flags_stamped}
use Rattle.dv_rows.proofs.FlagChanges.{changed_uid}
use Rattle.dv_rows.proofs.Rising.{counted_many, mapped_rows}
use Rattle.dv_rows.proofs.Walked.{AreMade, flags_walked, made_twice}
use Rattle.dv_rows.proofs.Walking.{still_rows}
use Rattle.dv_rows.proofs.rows.Rows.change_flags.Goals as goal

pub walk-requires-2-clause-rows : goal.walk-requires-2-clause-rows
walk-requires-2-clause-rows c =
    let also : length c.walk.new.notes.items ≡ length c.walk.new.rows.items = c.walk.ensures.noted in
    still_rows (λ (x : Change). x.first) (λ (x : Change). x.last) flags_changed (λ r p. refl) c.args.changes.now c.self.inside.rows.items c.self.inside.notes.items c.walk.new.rows.items c.walk.new.notes.items
    (counted_many c.self.inside.rows.items c.self.inside.notes.items c.self.inside.counts c.self.invariant.counted) also c.walk.ensures.is c.self.invariant.counted.are

pub invariant_of-self : goal.invariant_of-self
invariant_of-self c =
    let f : Row → Row = λ row. restamped c.args.modseq row (fold changed_flags row c.args.changes.now) in
    let also : length c.walk-2.new.notes.items ≡ length c.walk-2.new.rows.items = c.walk-2.ensures.noted in
    let done : AreMade f c.self.inside.rows.items c.walk-2.new.rows.items c.walk-2.new.notes.items =
    made_twice (λ (x : Change). x.first) (λ (x : Change). x.last) flags_changed (λ r. flags_stamped c.args.modseq) c.args.changes.now f c.self.inside.rows.items c.self.inside.notes.items (noted c.walk.new.rows.items c.walk.new.notes.items) c.walk-2.new.rows.items c.walk-2.new.notes.items
    c.self.invariant.counted.flags also c.walk.ensures.is c.walk-2.ensures.is (flags_walked c.args.modseq c.args.changes.now) in
    record {
      counted = record {
        are = rw done.rows (mapped_rows f (changed_uid c.args.modseq c.args.changes.now) c.self.inside.rows.items c.self.invariant.counted.are);
        flags = done.flags;
        tally = c.walk-2.ensures.tally;
      };
      for_rows = omega arith;
      for_notes = omega arith;
    }

pub returns-clause-rows : goal.returns-clause-rows
returns-clause-rows c =
    let f : Row → Row = λ row. restamped c.args.modseq row (fold changed_flags row c.args.changes.now) in
    let also : length c.walk-2.new.notes.items ≡ length c.walk-2.new.rows.items = c.walk-2.ensures.noted in
    let done : AreMade f c.self.inside.rows.items c.walk-2.new.rows.items c.walk-2.new.notes.items =
    made_twice (λ (x : Change). x.first) (λ (x : Change). x.last) flags_changed (λ r. flags_stamped c.args.modseq) c.args.changes.now f c.self.inside.rows.items c.self.inside.notes.items (noted c.walk.new.rows.items c.walk.new.notes.items) c.walk-2.new.rows.items c.walk-2.new.notes.items
    c.self.invariant.counted.flags also c.walk.ensures.is c.walk-2.ensures.is (flags_walked c.args.modseq c.args.changes.now) in
    done.rows ∙ ap (λ (kept : Kept). map f kept.rows) c.self.view_is
