use Rattle.std.proofs.Common.{◌≡◌, ◌∙◌, [], ap, arith, length, sym}
use Rattle.std.specs.Prelude.{map}
use Rattle.dv_model.specs.declared.types.Pair.{Pair}
use Rattle.dv_model.specs.declared.types.Row.{Row}
use Rattle.dv_validity.specs.Laws.{restamped}
use Rattle.dv_rows.specs.Changed.{changed_keywords}
use Rattle.dv_rows.specs.Kept.{Kept}
use Rattle.dv_rows.specs.Noted.{with_note}
use Rattle.dv_rows.specs.Steps.{without_keywords}
use Rattle.dv_rows.proofs.OtherPlaces.{same_flags, same_uid}
use Rattle.dv_rows.proofs.Rising.{mapped_rows}
use Rattle.dv_rows.proofs.Walked.{AreMade, keywords_walked, made}
use Rattle.dv_rows.proofs.rows.Rows.clear_keywords.Goals as goal

pub invariant_of-self : goal.invariant_of-self
invariant_of-self c =
    let f : Row → Row = λ row. restamped c.args.modseq row (changed_keywords c.args.pairs.now (λ places. []) row) in
    let also : length c.walk.new.notes.items ≡ length c.walk.new.rows.items = c.walk.ensures.noted in
    let done : AreMade f c.self.inside.rows.items c.walk.new.rows.items c.walk.new.notes.items =
    made (λ (x : Pair). x.first) (λ (x : Pair). x.last) (λ r. without_keywords c.args.modseq) c.args.pairs.now f c.self.inside.rows.items c.self.inside.notes.items c.walk.new.rows.items c.walk.new.notes.items
    c.self.invariant.counted.flags also c.walk.ensures.is
    (λ row. keywords_walked c.args.modseq c.args.pairs.now row row.flags ∙ ap (with_note (f row)) (sym (same_flags c.args.pairs.now (λ places. []) c.args.modseq row))) in
    record {
      counted = record {
        are = rw done.rows (mapped_rows f (same_uid c.args.pairs.now (λ places. []) c.args.modseq) c.self.inside.rows.items c.self.invariant.counted.are);
        flags = done.flags;
        tally = c.walk.ensures.tally;
      };
      for_rows = omega arith;
      for_notes = omega arith;
    }

pub returns-clause-rows : goal.returns-clause-rows
returns-clause-rows c =
    let f : Row → Row = λ row. restamped c.args.modseq row (changed_keywords c.args.pairs.now (λ places. []) row) in
    let also : length c.walk.new.notes.items ≡ length c.walk.new.rows.items = c.walk.ensures.noted in
    let done : AreMade f c.self.inside.rows.items c.walk.new.rows.items c.walk.new.notes.items =
    made (λ (x : Pair). x.first) (λ (x : Pair). x.last) (λ r. without_keywords c.args.modseq) c.args.pairs.now f c.self.inside.rows.items c.self.inside.notes.items c.walk.new.rows.items c.walk.new.notes.items
    c.self.invariant.counted.flags also c.walk.ensures.is
    (λ row. keywords_walked c.args.modseq c.args.pairs.now row row.flags ∙ ap (with_note (f row)) (sym (same_flags c.args.pairs.now (λ places. []) c.args.modseq row))) in
    done.rows ∙ ap (λ (kept : Kept). map f kept.rows) c.self.view_is
