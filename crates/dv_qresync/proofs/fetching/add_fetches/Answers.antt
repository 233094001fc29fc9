use Rattle.std.proofs.Common.{◌≤◌, ◌+◌, ◌++◌, ◌∷◌, [], List, ◌∙◌, drop, length, ap, sym, arith, append-nil}
use Rattle.std.proofs.lemmas.List.{drop_all}
use Rattle.dv_model.specs.declared.types.Row.{Row}
use Rattle.dv_qresync.specs.declared.types.Answer.{Answer}
use Rattle.dv_qresync.specs.Answers.{fetches}
use Rattle.dv_qresync.proofs.Telling.{passes, tells, told_from}
use Rattle.dv_qresync.proofs.fetching.add_fetches.Goals as goal
use Rattle.dv_qresync.proofs.fetching.add_fetches.Goals.{then-is_told+in_ok-fetch_of+in_ok-push, else-is_told}

pub loop-place-preserved : goal.loop-place-preserved
loop-place-preserved c =
    let m = c.args.live.now.mailbox in
    let since = c.args.since in
    let place = c.loop-place.place in
    let row : Row = c.row-row.result.now in
    let told : List Answer = c.loop-place.answers in
    let all : List Answer = c.args.answers.now ++ fetches m since in
    elim c.if-is_told.branch [
      | then-is_told+in_ok-fetch_of+in_ok-push w ↦
          ap (λ (as' : List Answer). as' ++ told_from m since (place + 1 + 1) (drop (place + 1) m.rows)) (w.answers-is ∙ w.in_ok-push.ensures.ok ∙ ap (λ (a : Answer). told ++ a ∷ []) w.in_ok-fetch_of.ensures)
          ∙ tells m since place row told all c.row-row.ensures (sym c.is_told.ensures ∙ w.if-is_told.true) c.loop-place.invariant
      | else-is_told w ↦
          ap (λ (as' : List Answer). as' ++ told_from m since (place + 1 + 1) (drop (place + 1) m.rows)) w.answers-is
          ∙ passes m since place row told all c.row-row.ensures (sym c.is_told.ensures ∙ w.if-is_told.false) c.loop-place.invariant
    ]

pub returns : goal.returns
returns c =
    let m = c.args.live.now.mailbox in
    let past : length m.rows ≤ c.loop-place.place = omega (arith, c.loop-place-test.false, c.count-place-end.ensures) in
    sym (append-nil c.loop-place.answers)
    ∙ ap (λ (rows : List Row). c.loop-place.answers ++ told_from m c.args.since (c.loop-place.place + 1) rows) (sym (drop_all c.loop-place.place m.rows past))
    ∙ c.loop-place.invariant
