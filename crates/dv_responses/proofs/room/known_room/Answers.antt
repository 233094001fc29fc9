use Rattle.std.proofs.Common.{◌≡◌, ◌∙◌, ◌+◌, ◌<◌, List, ap, arith, get_or, length, subst, sym, take}
use Rattle.std.specs.Prelude.{sum_by}
use Rattle.std.proofs.lemmas.List.Sums.{sum_by_more}
use Rattle.dv_responses.specs.Rooms.{field_room}
use Rattle.dv_responses.proofs.room.known_room.Goals as goal

pub loop-field-preserved : goal.loop-field-preserved
loop-field-preserved c =
    let fields = c.args.facts.now.fields in
    let i = c.loop-field.field-index in
    let field = c.field-item.result in
    let less : i < length fields = subst (λ l. i < length l) c.as_slice-field-items.ensures c.loop-field-test.true in
    let is : field ≡ get_or fields i field = c.field-item.is ∙ ap (λ l. get_or l i field) c.as_slice-field-items.ensures in
    let more : sum_by field_room (take (i + 1) fields) ≡ sum_by field_room (take i fields) + field_room (get_or fields i field) = sum_by_more field_room fields i field less in
    let this : field_room field ≡ field_room (get_or fields i field) = ap field_room is in
    omega (arith, more, this, c.loop-field.invariant, c.len.ensures, c.known_bytes.ensures, c.saturating_add.ensures, c.saturating_add-in-loop-field.ensures, c.saturating_add-room.ensures)
