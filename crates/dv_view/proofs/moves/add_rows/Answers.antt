use Rattle.std.proofs.Common.{◌≡◌, ◌<◌, ◌++◌, ◌∷◌, [], ◌∙◌, List, true, false, length, get_or, take, map, ap, sym, arith, append_assoc, append-nil}
use Rattle.std.specs.Prelude.{nat_le}
use Rattle.std.proofs.lemmas.Bool.Decides.{nat_tests}
use Rattle.std.proofs.lemmas.Option.{get_or_from_slice_get}
use Rattle.dv_model.specs.declared.types.Row.{Row}
use Rattle.dv_model.specs.declared.types.Shown.{Shown}
use Rattle.dv_model.specs.Views.{shown}
use Rattle.dv_model.proofs.Clients.{from_uid}
use Rattle.dv_view.proofs.Moving.{shown_more}
use Rattle.dv_view.proofs.moves.add_rows.Goals as goal
use Rattle.dv_view.proofs.moves.add_rows.Goals.{then-row-from+in_ok-shown+in_ok-push, else-row-from}

pub loop-k-preserved : goal.loop-k-preserved
loop-k-preserved c =
    let rows : List Row = c.args.live.now.mailbox.rows in
    let k = c.loop-k.k in
    let b = c.args.from in
    let row : Row = c.row-row.result.now in
    let less : k < length rows = omega (arith, c.loop-k-test.true, c.count-k-end.ensures) in
    let is : get_or rows k row ≡ row = get_or_from_slice_get rows k row row c.row-row.ensures in
    elim c.if-row-from.branch [
      | then-row-from+in_ok-shown+in_ok-push w ↦
          let test : nat_le b row.uid ≡ true = grind (arith, nat_tests, w.if-row-from.true) in
          w.rows-is ∙ w.in_ok-push.ensures.ok ∙ ap (λ (s : Shown). c.loop-k.rows ++ s ∷ []) w.in_ok-shown.ensures ∙ ap (λ (rs : List Shown). rs ++ shown row ∷ []) c.loop-k.invariant
          ∙ append_assoc c.args.rows.now (map shown (from_uid b (take k rows))) (shown row ∷ []) ∙ ap (λ rs. c.args.rows.now ++ rs) (sym (shown_more b rows k row true less is test))
      | else-row-from w ↦
          let test : nat_le b row.uid ≡ false = grind (arith, nat_tests, w.if-row-from.false) in
          w.rows-is ∙ c.loop-k.invariant ∙ ap (λ rs. c.args.rows.now ++ rs) (sym (shown_more b rows k row false less is test ∙ append-nil (map shown (from_uid b (take k rows)))))
    ]
