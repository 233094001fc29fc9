use Rattle.std.proofs.Common.{◌≡◌, ◌∙◌, ◌<◌, List, Some, ap, arith, length, length-set, refl, subst, sym}
use Rattle.std.specs.Prelude.{map, nat_eq, position}
use Rattle.std.proofs.Math.ListN.{set}
use Rattle.std.proofs.lemmas.List.{map-set}
use Rattle.dv_model.specs.declared.types.Row.{Row}
use Rattle.dv_rows.specs.Kept.{Kept}
use Rattle.dv_rows.specs.Noted.{IsTally}
use Rattle.dv_rows.proofs.PartChanges.{at_uid, none_changes, one_changes, put_uid}
use Rattle.dv_rows.proofs.PutBack.{all_back}
use Rattle.dv_rows.proofs.Rising.{counted_many, few, mapped_rows}
use Rattle.dv_rows.proofs.rows.Rows.replace.Goals as goal

pub put_note-requires-clause-few : goal.put_note-requires-clause-few
put_note-requires-clause-few c =
    let rows : List Row = c.self.inside.rows.items in
    let many = counted_many rows c.self.inside.notes.items c.self.inside.counts c.self.invariant.counted in
    let all = few rows c.self.invariant.counted.are in
    let same : length c.deref_mut.result.now ≡ length c.self.inside.notes.items = ap length c.deref_mut.ensures.value in
    omega arith

pub invariant_of-self : goal.invariant_of-self
invariant_of-self c =
    let rows : List Row = c.self.inside.rows.items in
    let row : Row = c.args.row in
    let at = c.in-Some.at in
    let inside : at < length rows = subst (λ l. at < length l) c.deref.ensures.value c.in-Some.ensures.inside in
    let found : position (λ (r : Row). nat_eq r.uid row.uid) rows ≡ Some at = sym (c.in-Some.ensures.is ∙ ap (position (λ (r : Row). nat_eq r.uid row.uid)) c.deref.ensures.value) in
    let put : set rows at row ≡ map (at_uid row.uid (λ other. row)) rows = one_changes row.uid at (λ other. row) rows row row c.self.invariant.counted.are inside found refl in
    let notes : c.put_note.new.notes ≡ map (λ (r : Row). r.flags) (set rows at row) =
    c.put_note.ensures.notes ∙ ap (λ l. set l at row.flags) (c.deref_mut.ensures.value ∙ c.self.invariant.counted.flags) ∙ sym (map-set (λ (r : Row). r.flags) rows at row) in
    let long : length c.put_note.new.notes ≡ c.self.inside.notes.len = ap length c.put_note.ensures.notes ∙ length-set c.deref_mut.result.now at row.flags ∙ c.deref_mut.ensures.len in
    let back = all_back c.self.inside.notes.items c.put_note.new.notes c.self.inside.notes.len long in
    record {
      counted = record {
        are = rw put (mapped_rows (at_uid row.uid (λ other. row)) (put_uid row) rows c.self.invariant.counted.are);
        flags = back ∙ notes;
        tally = subst (IsTally c.put_note.new.counts) (sym back) c.put_note.ensures.tally;
      };
      for_rows = c.self.invariant.for_rows;
      for_notes = c.self.invariant.for_notes;
    }

pub returns-in-Some-clause-rows : goal.returns-in-Some-clause-rows
returns-in-Some-clause-rows c =
    let rows : List Row = c.self.inside.rows.items in
    let row : Row = c.args.row in
    let at = c.in-Some.at in
    let inside : at < length rows = subst (λ l. at < length l) c.deref.ensures.value c.in-Some.ensures.inside in
    let found : position (λ (r : Row). nat_eq r.uid row.uid) rows ≡ Some at = sym (c.in-Some.ensures.is ∙ ap (position (λ (r : Row). nat_eq r.uid row.uid)) c.deref.ensures.value) in
    one_changes row.uid at (λ other. row) rows row row c.self.invariant.counted.are inside found refl ∙ ap (λ (kept : Kept). map (at_uid row.uid (λ other. row)) kept.rows) c.self.view_is

pub returns-in_default-clause-rows : goal.returns-in_default-clause-rows
returns-in_default-clause-rows c =
    let row : Row = c.args.row in
    let same : c.deref.result.now ≡ c.args.self.now.rows = c.deref.ensures.value ∙ ap (λ (kept : Kept). kept.rows) c.self.view_is in
    none_changes row.uid (λ other. row) c.args.self.now.rows (ap (position (λ (r : Row). nat_eq r.uid row.uid)) (sym same) ∙ sym c.in_default.ensures.is)
