use Rattle.std.proofs.Common.{◌≡◌, ◌∙◌, ◌<◌, ◌≤◌, true, ap, sym, refl, length, take, get_or, eqb, arith}
use Rattle.std.proofs.lemmas.Bool.{eq-eqb, ne_eqb}
use Rattle.std.proofs.lemmas.List.Edits.{length-swap}
use Rattle.std.proofs.lemmas.List.Elements.{All-weaker}
use Rattle.std.proofs.lemmas.List.Filters.{FiltersInPlace-all, FiltersInPlace-more_no, FiltersInPlace-more_swap}
use Rattle.dv_model.specs.declared.types.Row.{Row}
use Rattle.dv_rows.specs.Noted.{Noted, noted, with_note}
use Rattle.dv_rows.proofs.Walking.{filter_starts, noted_get, noted_length, noted_swapped, noted_take}
use Rattle.dv_rows.proofs.uids.remove_marked.Goals.{then-index, else-index}
use Rattle.dv_rows.proofs.uids.remove_marked.Goals as goal

pub loop-at-init : goal.loop-at-init
loop-at-init c =
    let rows = c.args.rows.now.items in
    let notes = c.args.notes.now.items in
    let long : length (noted rows notes) ≡ length rows = noted_length rows notes c.requires.noted in
    record {
      kept = filter_starts (λ (p : Noted). eqb p.note p.row.flags) (noted rows notes) c.args.from (omega (arith, long, c.requires.inside))
          (All-weaker (λ (p : Noted). p.note ≡ p.row.flags) (λ (p : Noted). eqb p.note p.row.flags ≡ true) (λ p e. eq-eqb p.note p.row.flags e) (take c.args.from (noted rows notes)) c.requires.before);
      rows = refl;
      notes = c.requires.noted;
      rows_len = refl;
      notes_len = refl;
      rows_capacity = refl;
      notes_capacity = refl;
    }

pub loop-at-preserved : goal.loop-at-preserved
loop-at-preserved c =
    let kept = c.loop-at.invariant.kept in
    let many : length c.loop-at.notes.items ≡ length c.loop-at.rows.items = c.loop-at.invariant.notes ∙ sym c.loop-at.invariant.rows in
    let long : length (noted c.loop-at.rows.items c.loop-at.notes.items) ≡ length c.loop-at.rows.items = noted_length c.loop-at.rows.items c.loop-at.notes.items many in
    let less : c.loop-at.at < length c.loop-at.rows.items = omega (arith, c.loop-at-test.true, c.len-at-end.ensures, c.loop-at.invariant.rows) in
    let row : Row = c.index-in-loop-at.result.now in
    let p : Noted = with_note row c.index.result.now in
    let here : p ≡ get_or (noted c.loop-at.rows.items c.loop-at.notes.items) c.loop-at.at p =
    ap (λ r. with_note r c.index.result.now) c.index-in-loop-at.ensures ∙ ap (with_note (get_or c.loop-at.rows.items c.loop-at.at row)) c.index.ensures ∙ sym (noted_get c.loop-at.rows.items c.loop-at.notes.items c.loop-at.at p many) in
    let inside : c.loop-at.at < length (noted c.loop-at.rows.items c.loop-at.notes.items) = omega (arith, less, long) in
    elim c.if-index.branch [
      | then-index w ↦
          rw (w.rows-is, w.notes-is, w.to-is)
          (record {
            kept = FiltersInPlace-more_swap {x = p} kept inside (eq-eqb p.note p.row.flags w.if-index.true) here (noted_swapped c.loop-at.rows.items w.swap.new.self.items c.loop-at.notes.items w.swap-then-index.new.self.items c.loop-at.to c.loop-at.at many (ap length w.swap-then-index.ensures.items ∙ length-swap c.loop-at.notes.items c.loop-at.to c.loop-at.at ∙ many ∙ sym (ap length w.swap.ensures.items ∙ length-swap c.loop-at.rows.items c.loop-at.to c.loop-at.at)) w.swap.ensures.by_index w.swap-then-index.ensures.by_index);
            rows = ap length w.swap.ensures.items ∙ length-swap c.loop-at.rows.items c.loop-at.to c.loop-at.at ∙ c.loop-at.invariant.rows;
            notes = ap length w.swap-then-index.ensures.items ∙ length-swap c.loop-at.notes.items c.loop-at.to c.loop-at.at ∙ c.loop-at.invariant.notes;
            rows_len = w.swap.ensures.len ∙ c.loop-at.invariant.rows_len;
            notes_len = w.swap-then-index.ensures.len ∙ c.loop-at.invariant.notes_len;
            rows_capacity = w.swap.ensures.capacity ∙ c.loop-at.invariant.rows_capacity;
            notes_capacity = w.swap-then-index.ensures.capacity ∙ c.loop-at.invariant.notes_capacity;
          })
      | else-index w ↦
          rw (w.rows-is, w.notes-is, w.to-is)
          (record {
            kept = FiltersInPlace-more_no {x = p} kept inside (ne_eqb p.note p.row.flags w.if-index.false) here;
            rows = c.loop-at.invariant.rows;
            notes = c.loop-at.invariant.notes;
            rows_len = c.loop-at.invariant.rows_len;
            notes_len = c.loop-at.invariant.notes_len;
            rows_capacity = c.loop-at.invariant.rows_capacity;
            notes_capacity = c.loop-at.invariant.notes_capacity;
          })
    ]

pub returns-clause-is : goal.returns-clause-is
returns-clause-is c =
    let kept = c.loop-at.invariant.kept in
    let past : length (noted c.args.rows.now.items c.args.notes.now.items) ≤ c.loop-at.at = let long = noted_length c.args.rows.now.items c.args.notes.now.items c.requires.noted in omega (arith, long, c.loop-at-test.false, c.len-at-end.ensures) in
    ap (λ l. noted l c.truncate-2.new.self.items) c.truncate.ensures.items ∙ ap (noted (take c.loop-at.to c.loop-at.rows.items)) c.truncate-2.ensures.items
    ∙ noted_take c.loop-at.to c.loop-at.rows.items c.loop-at.notes.items ∙ FiltersInPlace-all kept past
