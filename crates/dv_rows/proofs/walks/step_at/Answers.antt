use Rattle.std.proofs.Common.{◌≡◌, ◌∙◌, ap, sym, get_or, arith}
use Rattle.std.proofs.Math.ListN.{set}
use Rattle.std.proofs.lemmas.List.{get_or_default}
use Rattle.dv_model.specs.declared.types.Row.{Row}
use Rattle.dv_rows.specs.Noted.{noted, with_note}
use Rattle.dv_rows.proofs.Walking.{noted_get, noted_set}
use Rattle.dv_rows.proofs.walks.step_at.Goals as goal

pub returns-clause-is : goal.returns-clause-is
returns-clause-is g c =
    let rows = c.args.rows.now in
    let notes = c.args.notes.now in
    let at = c.args.at in
    let row : Row = c.index-rows-at.result in
    λ d.
    let one : get_or rows at d.row ≡ get_or rows at row = get_or_default rows at d.row row c.requires.inside in
    let two : get_or notes at d.note ≡ get_or notes at 0 = get_or_default notes at d.note 0 (omega arith) in
    ap (noted (set rows at c.step.new.row)) c.put_note.ensures.notes ∙ noted_set rows notes at c.step.new.row c.step.new.note c.requires.noted
    ∙ ap (set (noted rows notes) at)
    (c.step.ensures
    ∙ ap (g.S.Step.after c.args.step.now c.args.range.now) (sym (noted_get rows notes at d c.requires.noted ∙ ap (λ r. with_note r (get_or notes at d.note)) one ∙ ap (with_note (get_or rows at row)) two)))
