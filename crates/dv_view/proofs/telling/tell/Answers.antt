use Rattle.std.proofs.Common.{◌≡◌, ◌+◌, ◌++◌, ◌∙◌, true, ap, sym, subst, drop, take, length, length-append, arith}
use Rattle.std.specs.Prelude.{option_to_list}
use Rattle.std.proofs.lemmas.List.{length-take}
use Rattle.dv_model.specs.Fresh.{patched}
use Rattle.dv_view.specs.declared.telling.Telling.{Telling}
use Rattle.dv_view.specs.Following.{rows_after, told_of}
use Rattle.dv_view.specs.Told.{GoesOn, IsPlace, tells, without}
use Rattle.dv_view.proofs.Passing.{next_told, one_told, passed}
use Rattle.dv_view.proofs.telling.tell.Goals as goal
use Rattle.dv_view.proofs.telling.tell.Goals.{in-Some+in_ok-tell_row, in_default}

pub tell_row-requires-clause-number : goal.tell_row-requires-clause-number
tell_row-requires-clause-number c =
    let rows = c.args.rows.now in
    let fresh = c.args.fresh.now in
    let step = c.args.step in
    let f = c.index-fresh-at.result in
    let before = c.args.told.now in
    let k = c.pass.result in
    let e : tells step f ≡ true = sym c.tells.ensures ∙ c.if-not-tells.false in
    let place : IsPlace (drop before.from rows) f.uid k = c.pass.ensures.is in
    let behind = patched (without f.uid (drop k (drop before.from rows))) (told_of step (drop (c.args.at + 1) fresh)) in
    let next = next_told step fresh c.requires.given c.args.at f c.requires.at c.index-fresh-at.is (drop before.from rows) k e place in
    let front : length (take k (drop before.from rows)) ≡ k = length-take k (drop before.from rows) ∙ (let le = place.0 in omega arith) in
    let all : length (rows_after step (drop before.from rows) (drop c.args.at fresh)) ≡ k + (1 + length behind) =
    ap length next ∙ length-append (take k (drop before.from rows)) (option_to_list f.row ++ behind)
    ∙ ap (λ n. n + length (option_to_list f.row ++ behind)) front
    ∙ ap (λ row. k + length (option_to_list row ++ behind)) c.in-Some.is ∙ omega arith in
    let number : c.pass.new.told.number ≡ before.number + k = ap (λ (t : Telling). t.number) c.pass.ensures.told in
    omega (arith, all, number, c.requires.told.rest.count, c.requires.count)

pub returns : goal.returns
returns c =
    let rows = c.args.rows.now in
    let fresh = c.args.fresh.now in
    let step = c.args.step in
    let f = c.index-fresh-at.result in
    let before = c.args.told.now in
    let k = c.pass.result in
    let e : tells step f ≡ true = sym c.tells.ensures ∙ c.if-not-tells.false in
    let place : IsPlace (drop before.from rows) f.uid k = c.pass.ensures.is in
    let new = rows_after step rows fresh in
    let behind = patched (without f.uid (drop k (drop before.from rows))) (told_of step (drop (c.args.at + 1) fresh)) in
    let next = next_told step fresh c.requires.given c.args.at f c.requires.at c.index-fresh-at.is (drop before.from rows) k e place in
    let goes = subst (λ rs. GoesOn rows new rs before) next c.requires.told.rest in
    let over : GoesOn rows new (option_to_list f.row ++ behind) c.pass.new.told =
    subst (GoesOn rows new (option_to_list f.row ++ behind)) (sym c.pass.ensures.told) (passed rows new before.from k (option_to_list f.row ++ behind) before place.0 goes) in
    let from : c.pass.new.told.from ≡ before.from + k = ap (λ (t : Telling). t.from) c.pass.ensures.told in
    elim c.match-f.branch [
      | in-Some+in_ok-tell_row w ↦
          let mid : GoesOn rows new behind w.tell_row.new.told = w.in_ok-tell_row.ensures.told new behind (subst (λ row. GoesOn rows new (option_to_list row ++ behind) c.pass.new.told) w.in-Some.is over) in
          let is : c.match-f.told ≡ w.tell_row.new.told = w.told-is in
          one_told step rows fresh c.args.at f before.from k c.match-f.told c.leave.new.told
          (ap (λ (t : Telling). t.from) is ∙ w.tell_row.ensures.from ∙ from) (subst (GoesOn rows new behind) (sym is) mid) c.leave.ensures.is c.leave.ensures.told c.leave.ensures.inside
      | in_default w ↦
          let mid : GoesOn rows new behind c.pass.new.told = subst (λ row. GoesOn rows new (option_to_list row ++ behind) c.pass.new.told) w.in_default.is over in
          let is : c.match-f.told ≡ c.pass.new.told = w.told-is in
          one_told step rows fresh c.args.at f before.from k c.match-f.told c.leave.new.told
          (ap (λ (t : Telling). t.from) is ∙ from) (subst (GoesOn rows new behind) (sym is) mid) c.leave.ensures.is c.leave.ensures.told c.leave.ensures.inside
    ]
