use Rattle.std.proofs.Common.{◌≡◌, ◌∙◌, Bool, false, List, ℕ, ap, arith, length, subst, sym, take}
use Rattle.std.specs.Prelude.{All, filter, not}
use Rattle.std.specs.List.{list_any}
use Rattle.dv_model.specs.declared.types.Row.{Row}
use Rattle.dv_rows.specs.Kept.{Kept}
use Rattle.dv_rows.specs.Noted.{Noted, has, noted}
use Rattle.dv_rows.proofs.Rising.{filtered_rows}
use Rattle.dv_rows.proofs.Walked.{AreLeft, all_marked, left, marked_if, unmarked}
use Rattle.std.specs.Prelude.{map}
use Rattle.dv_rows.proofs.rows.Rows.remove.Goals as goal

pub remove_marked-requires-clause-before : goal.remove_marked-requires-clause-before
remove_marked-requires-clause-before g c =
    let test : ℕ → Bool = λ uid. list_any (has g.R.Range.lowest g.R.Range.highest uid) c.args.ranges.now in
    let rows : List Row = c.self.inside.rows.items in
    let marks : noted c.walk.new.rows.items c.walk.new.notes.items ≡ map (marked_if test) rows =
    all_marked g.R.Range.lowest g.R.Range.highest c.args.ranges.now rows c.self.inside.notes.items (noted c.walk.new.rows.items c.walk.new.notes.items) c.self.invariant.counted.flags c.walk.ensures.is in
    subst (λ l. All (λ (p : Noted). p.note ≡ p.row.flags) (take c.first_place-from.result l)) (sym marks)
    (unmarked test rows c.first_place-from.result (subst (λ l. All (λ (row : Row). test row.uid ≡ false) (take c.first_place-from.result l)) c.deref.ensures.value c.first_place-from.ensures.before))

pub invariant_of-self : goal.invariant_of-self
invariant_of-self g c =
    let test : ℕ → Bool = λ uid. list_any (has g.R.Range.lowest g.R.Range.highest uid) c.args.ranges.now in
    let rows : List Row = c.self.inside.rows.items in
    let marks : noted c.walk.new.rows.items c.walk.new.notes.items ≡ map (marked_if test) rows =
    all_marked g.R.Range.lowest g.R.Range.highest c.args.ranges.now rows c.self.inside.notes.items (noted c.walk.new.rows.items c.walk.new.notes.items) c.self.invariant.counted.flags c.walk.ensures.is in
    let many : length c.walk.new.notes.items ≡ length c.walk.new.rows.items = c.walk.ensures.noted in
    let done : AreLeft test rows c.walk.new.notes.items c.remove_marked.new.rows.items c.remove_marked.new.notes.items =
    left test rows c.walk.new.rows.items c.remove_marked.new.rows.items c.walk.new.notes.items c.remove_marked.new.notes.items many c.remove_marked.ensures.noted marks c.remove_marked.ensures.is in
    record {
      counted = record {
        are = rw done.rows (filtered_rows (λ uid. not (test uid)) rows c.self.invariant.counted.are);
        flags = done.flags;
        tally = record { seen = c.walk.ensures.tally.seen ∙ done.seen; deleted = c.walk.ensures.tally.deleted ∙ done.deleted };
      };
      for_rows = omega arith;
      for_notes = omega arith;
    }

pub returns-clause-rows : goal.returns-clause-rows
returns-clause-rows g c =
    let test : ℕ → Bool = λ uid. list_any (has g.R.Range.lowest g.R.Range.highest uid) c.args.ranges.now in
    let rows : List Row = c.self.inside.rows.items in
    let marks : noted c.walk.new.rows.items c.walk.new.notes.items ≡ map (marked_if test) rows =
    all_marked g.R.Range.lowest g.R.Range.highest c.args.ranges.now rows c.self.inside.notes.items (noted c.walk.new.rows.items c.walk.new.notes.items) c.self.invariant.counted.flags c.walk.ensures.is in
    let many : length c.walk.new.notes.items ≡ length c.walk.new.rows.items = c.walk.ensures.noted in
    let done : AreLeft test rows c.walk.new.notes.items c.remove_marked.new.rows.items c.remove_marked.new.notes.items =
    left test rows c.walk.new.rows.items c.remove_marked.new.rows.items c.walk.new.notes.items c.remove_marked.new.notes.items many c.remove_marked.ensures.noted marks c.remove_marked.ensures.is in
    done.rows ∙ ap (λ (kept : Kept). filter (λ (row : Row). not (test row.uid)) kept.rows) c.self.view_is
