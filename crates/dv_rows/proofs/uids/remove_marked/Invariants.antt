use Rattle.std.proofs.Common.{◌≡◌, length, eqb, vec_len, vec_capacity}
use Rattle.std.proofs.lemmas.List.Filters.{FiltersInPlace}
use Rattle.dv_rows.specs.Noted.{noted}
use Rattle.dv_rows.proofs.uids.remove_marked.Given as goal

abbrev pub invariant-loop-at : goal.invariant-loop-at
invariant-loop-at l = record {
  kept : FiltersInPlace (λ p. eqb p.note p.row.flags) (noted l.initial.rows.items l.initial.notes.items) (noted l.rows.items l.notes.items) l.to l.at;
  rows : length l.rows.items ≡ length l.initial.rows.items;
  notes : length l.notes.items ≡ length l.initial.rows.items;
  rows_len : vec_len l.rows ≡ vec_len l.initial.rows;
  notes_len : vec_len l.notes ≡ vec_len l.initial.notes;
  rows_capacity : vec_capacity l.rows ≡ vec_capacity l.initial.rows;
  notes_capacity : vec_capacity l.notes ≡ vec_capacity l.initial.notes;
}
