use Rattle.std.proofs.Common.{sym, ◌∙◌, ap}
use Rattle.dv_serving.proofs.Readings.{any_readings}
use Rattle.dv_beginning.proofs.FoundStarts.{found_told}
use Rattle.dv_beginning.proofs.Opened.{begun_found, sound_start, unopened_found}
use Rattle.dv_beginning.proofs.opening.open_found.Goals as goal

pub returns-in-Ok-clause-begins : goal.returns-in-Ok-clause-begins
returns-in-Ok-clause-begins g c = λ tells settled is_true some.
    let S = g.S.Shelf in
    let C = g.C.Clock in
    let done = c.in-Ok.ensures in
    let types = c.have_types.ensures in
    any_readings C.sees.tells (C.sees.upcoming c.args.clock) (g.met.C.Clock.readings_small c.args.clock) (λ clock same.
    begun_found S.sees C.sees clock c.args.shelf c.in-Ok.store (done.opens tells) done.fresh (done.quiet tells settled) (done.files tells)
    (record { valid = types.valid; resets = types.resets; place = types.place; indexid = types.indexid }) is_true (λ told. ap C.sees.upcoming done.clock ∙ sym (same told)))

pub returns-in-Err-clause-begins : goal.returns-in-Err-clause-begins
returns-in-Err-clause-begins g c = λ tells settled is_true some.
    let S = g.S.Shelf in
    let C = g.C.Clock in
    let done = c.in-Err.ensures in
    any_readings C.sees.tells (C.sees.upcoming c.args.clock) (g.met.C.Clock.readings_small c.args.clock) (λ clock same.
    unopened_found S.sees C.sees clock c.args.shelf c.in-Err.e (done.opens tells) (done.files tells) (done.quiet tells settled) some
    (λ t f le left. g.met.S.Shelf.counts_now c.in-Err.e.0 t f le left))

-- ---- what it starts from is sound

pub returns-in-Ok-clause-sound : goal.returns-in-Ok-clause-sound
returns-in-Ok-clause-sound g c =
    let types = c.have_types.ensures in
    sound_start g.S.Shelf.sees c.in-Ok.store c.in-Ok.ensures.fresh (record { valid = types.valid; resets = types.resets; place = types.place; indexid = types.indexid })

-- ---- what is found is told

pub returns-in-Ok-clause-found : goal.returns-in-Ok-clause-found
returns-in-Ok-clause-found g c = λ tells some.
    found_told (g.S.Shelf.sees.files c.args.shelf) _ _ (c.in-Ok.ensures.opens tells).found

pub returns-in-Err-clause-found : goal.returns-in-Err-clause-found
returns-in-Err-clause-found g c = λ tells some is. ((c.in-Err.ensures.opens tells).found, some)
