use Rattle.std.proofs.Common.{◌≡◌, ◌∙◌, ◌<◌, [], ◌∷◌, ◌++◌, ap, get_or, length, sym}
use Rattle.dv_model.specs.declared.types.Row.{Row}
use Rattle.dv_rows.proofs.Filtered.{none_more, none_yet, one_more_row}
use Rattle.dv_rows.proofs.PartChanges.{found_uid, none_there}
use Rattle.dv_rows.proofs.parting.copies.Goals.{in-Some+in_ok-duplicate+in_ok-push, in_default}
use Rattle.dv_rows.proofs.parting.copies.Goals as goal

pub loop-uid-init : goal.loop-uid-init
loop-uid-init c = c.in_ok-made.ensures.items ∙ sym (none_yet c.args.rows.now)

pub loop-uid-preserved : goal.loop-uid-preserved
loop-uid-preserved c =
    let rows = c.args.rows.now in
    let uids = c.args.uids.now in
    let i = c.loop-uid.uid-index in
    let less : i < length uids = c.loop-uid-test.true in
    elim c.match-place_of.branch [
      | in-Some+in_ok-duplicate+in_ok-push w ↦
          let row : Row = w.index-rows-at.result in
          let at = w.in-Some.at in
          let inside : at < length rows = w.in-Some.ensures.inside in
          let same : row.uid ≡ get_or uids i 0 = ap (λ (r : Row). r.uid) w.index-rows-at.is ∙ found_uid (get_or uids i 0) at rows (sym w.in-Some.ensures.is) row in
          rw w.made-is
          (w.in_ok-push.ensures.items ∙ ap (λ r. c.loop-uid.made.items ++ r ∷ []) w.in_ok-duplicate.ensures ∙ ap (λ l. l ++ row ∷ []) c.loop-uid.invariant
          ∙ sym (one_more_row rows uids i at row c.requires.rows c.requires.rising less inside w.index-rows-at.is same))
      | in_default w ↦ rw w.made-is (c.loop-uid.invariant ∙ sym (none_more rows uids i less (none_there (get_or uids i 0) rows (sym c.place_of.ensures.is ∙ w.in_default.is))))
    ]
