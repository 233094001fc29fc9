use Rattle.std.proofs.Common.{◌≡◌, ◌+◌, ◌<◌, ◌^◌, ◌++◌, [], ◌∷◌, List, length, ap, arith, subst, sym}
use Rattle.std.specs.Prelude.{All}
use Rattle.std.proofs.lemmas.List.{length_push}
use Rattle.dv_model.specs.declared.types.Row.{Row}
use Rattle.dv_rows.specs.Kept.{Kept}
use Rattle.dv_rows.proofs.Rising.{counted_many, counted_push, few, pushed_rows}
use Rattle.dv_rows.proofs.rows.Rows.push.Goals as goal

pub add_note-requires-clause-few : goal.add_note-requires-clause-few
add_note-requires-clause-few c =
    let rows : List Row = c.self.inside.rows.items in
    let row : Row = c.args.row in
    let above : All (λ (other : Row). other.uid < row.uid) rows = subst (All (λ (other : Row). other.uid < row.uid)) (sym (ap (λ (kept : Kept). kept.rows) c.self.view_is)) c.requires.above in
    let all : length (rows ++ row ∷ []) < 2 ^ 32 = few (rows ++ row ∷ []) (pushed_rows rows row above c.requires.below c.self.invariant.counted.are) in
    let long : length (rows ++ row ∷ []) ≡ length rows + 1 = length_push rows row in
    let many = counted_many rows c.self.inside.notes.items c.self.inside.counts c.self.invariant.counted in
    omega arith

pub invariant_of-self : goal.invariant_of-self
invariant_of-self c =
    let rows : List Row = c.self.inside.rows.items in
    let row : Row = c.args.row in
    let above : All (λ (other : Row). other.uid < row.uid) rows = subst (All (λ (other : Row). other.uid < row.uid)) (sym (ap (λ (kept : Kept). kept.rows) c.self.view_is)) c.requires.above in
    let room : c.self.inside.room ≡ c.args.self.now.room = ap (λ (kept : Kept). kept.room) c.self.view_is in
    record {
      counted = rw c.add_row.ensures.items
          (counted_push rows row c.self.inside.notes.items c.add_note.new.notes.items c.self.inside.counts c.add_note.new.counts above c.requires.below c.self.invariant.counted c.add_note.ensures.items c.add_note.ensures.tally);
      for_rows = omega (arith, c.requires.room, c.add_row.ensures.len, c.add_row.ensures.capacity, c.self.invariant.for_rows, room);
      for_notes = omega (arith, c.requires.room, c.add_note.ensures.len, c.add_note.ensures.capacity, c.self.invariant.for_notes, room);
    }
