use Rattle.std.proofs.Common.{◌∙◌, Ok, Err, ap, refl, inr}
use Rattle.std.proofs.lemmas.Result.{err_from_is_err_and}
use Rattle.dv_model.specs.Effects.{applied}
use Rattle.dv_maps.specs.Groups.{save_records}
use Rattle.dv_maps.specs.Texts.{with_message}
use Rattle.dv_mdbox.proofs.Ending.{end_saved}
use Rattle.dv_mdbox.proofs.Going.{goes_done, goes_failed, goes_nowhere}
use Rattle.dv_mdbox.proofs.Saved.{group_err, group_ok, group_saved, is_saved, place_is, save_group, save_through, saves_done, saves_err, saves_ok, saves_stayed, small_place, uid_is}
use Rattle.dv_mdbox.proofs.storage.Storage.put_text.Goals as goal

pub write-requires-clause-group : goal.write-requires-clause-group
write-requires-clause-group g c = rw (← c.self.view_is) (
    let m = c.self.inside.chain.live.mailbox in
    let left = (rw (← c.self.view_is) at c.requires.next).left in
    let room = (rw (← c.self.view_is) at c.requires.next).room in
    save_group c.self.inside.chain c.args.place c.records_are_written.ensures.saves (uid_is m c.is_valid.ensures left) c.in_ok-records.records (c.in_ok-records.ensures ∙ ap (λ id. save_records id c.args.place) c.next_uid-id.ensures.is) room)

pub write-requires-clause-tail : goal.write-requires-clause-tail
write-requires-clause-tail g c = rw (← c.self.view_is) (
    let m = c.self.inside.chain.live.mailbox in
    let place = c.args.place in
    let is = c.in_ok-records.ensures ∙ ap (λ id. save_records id place) c.next_uid-id.ensures.is in
    let free = (rw (← c.self.view_is) at c.requires.place).free in
    end_saved c.places_are.ensures m c.is_valid.ensures c.in_ok-records.records place is (small_place place c.is_number.ensures c.requires.place.end) free c.end_behind-tail.result c.end_behind-tail.ensures)

-- ---- the group

pub returns-in-Ok-clause-value : goal.returns-in-Ok-clause-value
returns-in-Ok-clause-value g c = rw (← c.self.view_is) (
    let value = rw (← c.self.view_is) at c.in-Ok.ensures.value in
    let m = c.self.inside.chain.live.mailbox in
    let is = c.in_ok-records.ensures ∙ ap (λ id. save_records id c.args.place) c.next_uid-id.ensures.is in
    group_ok (save_records m.next_uid c.args.place) _ c.write.new.self tt c.next_uid-id.result (group_saved m.next_uid c.args.place c.in_ok-records.records is _ c.write.new.self (Ok tt) value))

pub returns-in-Err-clause-value : goal.returns-in-Err-clause-value
returns-in-Err-clause-value g c = rw (← c.self.view_is) (
    let value = rw (← c.self.view_is) at c.in-Err.ensures.value in
    let m = c.self.inside.chain.live.mailbox in
    let is = c.in_ok-records.ensures ∙ ap (λ id. save_records id c.args.place) c.next_uid-id.ensures.is in
    group_err (save_records m.next_uid c.args.place) _ c.write.new.self c.in-Err.e c.in-Err.e (group_saved m.next_uid c.args.place c.in_ok-records.records is _ c.write.new.self (Err c.in-Err.e) value))

pub returns-in_err-records-clause-gives : goal.returns-in_err-records-clause-gives
returns-in_err-records-clause-gives g c = rw (← c.self.view_is) (λ tells messages debt message held rest.
    let S = g.S.Shelf in
    let p = err_from_is_err_and c.from_residual.result c.from_residual.ensures.1 in
    rw p.1 (saves_stayed S.sees messages debt message _ _ rest p.0 refl refl refl (λ f left. g.met.S.Shelf.only_now c.self.inside.shelf f tells left)))

pub returns-in-Ok-clause-gives : goal.returns-in-Ok-clause-gives
returns-in-Ok-clause-gives g c =
    let value = rw (← c.self.view_is) at c.in-Ok.ensures.value in
    let gives = rw (← c.self.view_is) at c.in-Ok.ensures.gives in
    let left = (rw (← c.self.view_is) at c.requires.next).left in
    let free = (rw (← c.self.view_is) at c.requires.place).free in
    rw (← c.self.view_is) (λ tells messages debt message held rest.
    let S = g.S.Shelf in
    let m = c.self.inside.chain.live.mailbox in
    let place = c.args.place in
    let text = c.args.text in
    let valid = c.is_valid.ensures in
    let uid = uid_is m valid left in
    let law = c.records_are_written.ensures.saves in
    let is = c.in_ok-records.ensures ∙ ap (λ id. save_records id place) c.next_uid-id.ensures.is in
    let saved = is_saved c.saves_are.ensures m place rest.map valid uid.1 (small_place place c.is_number.ensures c.requires.place.end) (law m place uid).applies in (
      place,
      saves_ok S.sees messages debt message place _ c.write.new.self tt c.next_uid-id.result
          (saves_done S.sees messages debt message place _ rest saved law uid c.in_ok-records.records is c.write.new.self (Ok tt) value
          (gives tells messages (with_message m.next_uid message messages) debt saved.after rest.fits rest.stands (ap (applied m) is ∙ saved.gives)
          (save_through m valid (record { file = place.file; offset = place.offset }) free message text held messages place (place_is place text c.requires.place.size) saved)).0),
    ))

pub returns-in-Err-clause-gives : goal.returns-in-Err-clause-gives
returns-in-Err-clause-gives g c =
    let value = rw (← c.self.view_is) at c.in-Err.ensures.value in
    let gives = rw (← c.self.view_is) at c.in-Err.ensures.gives in
    let left = (rw (← c.self.view_is) at c.requires.next).left in
    let free = (rw (← c.self.view_is) at c.requires.place).free in
    rw (← c.self.view_is) (λ tells messages debt message held rest.
    let S = g.S.Shelf in
    let m = c.self.inside.chain.live.mailbox in
    let place = c.args.place in
    let text = c.args.text in
    let valid = c.is_valid.ensures in
    let uid = uid_is m valid left in
    let law = c.records_are_written.ensures.saves in
    let is = c.in_ok-records.ensures ∙ ap (λ id. save_records id place) c.next_uid-id.ensures.is in
    let saved = is_saved c.saves_are.ensures m place rest.map valid uid.1 (small_place place c.is_number.ensures c.requires.place.end) (law m place uid).applies in
    inr (
      place,
      saves_err S.sees messages debt message place _ c.write.new.self c.in-Err.e c.in-Err.e
          (saves_done S.sees messages debt message place _ rest saved law uid c.in_ok-records.records is c.write.new.self (Err c.in-Err.e) value
          (gives tells messages (with_message m.next_uid message messages) debt saved.after rest.fits rest.stands (ap (applied m) is ∙ saved.gives)
          (save_through m valid (record { file = place.file; offset = place.offset }) free message text held messages place (place_is place text c.requires.place.size) saved)).0),
    ))

-- ---- the end of the last file

pub returns-in_err-records-clause-goes : goal.returns-in_err-records-clause-goes
returns-in_err-records-clause-goes g c = rw (← c.self.view_is) (
    let p = err_from_is_err_and c.from_residual.result c.from_residual.ensures.1 in
    rw p.1 (goes_nowhere g.S.Shelf.sees _ _ p.0 refl refl))

pub returns-in-Ok-clause-goes : goal.returns-in-Ok-clause-goes
returns-in-Ok-clause-goes g c =
    let value = rw (← c.self.view_is) at c.in-Ok.ensures.value in
    let beside = rw (← c.self.view_is) at c.in-Ok.ensures.beside in
    let free = (rw (← c.self.view_is) at c.requires.place).free in
    rw (← c.self.view_is) (
    let m = c.self.inside.chain.live.mailbox in
    let place = c.args.place in
    let is = c.in_ok-records.ensures ∙ ap (λ id. save_records id place) c.next_uid-id.ensures.is in
    let tail = c.end_behind-tail.result in
    let keeps = end_saved c.places_are.ensures m c.is_valid.ensures c.in_ok-records.records place is (small_place place c.is_number.ensures c.requires.place.end) free tail c.end_behind-tail.ensures in
    goes_done g.S.Shelf.sees _ c.write.new.self tail place c.in_ok-records.records keeps c.end_behind-tail.ensures tt c.next_uid-id.result value beside)

pub returns-in-Err-clause-goes : goal.returns-in-Err-clause-goes
returns-in-Err-clause-goes g c =
    let beside = rw (← c.self.view_is) at c.in-Err.ensures.beside in
    rw (← c.self.view_is) (goes_failed g.S.Shelf.sees _ c.write.new.self c.end_behind-tail.result c.in-Err.e c.in-Err.e beside)
