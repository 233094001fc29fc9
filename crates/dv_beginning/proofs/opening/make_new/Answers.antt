use Rattle.std.proofs.Common.{ℕ, Ok, Err, sym, ◌∙◌, ap, arith}
use Rattle.dv_chain.specs.declared.chain.Chain.{Chain}
use Rattle.dv_shelf.specs.Clocks.{behind}
use Rattle.dv_serving.proofs.Readings.{first_reading}
use Rattle.dv_beginning.proofs.Created.{begun_made, has_none, outside_none, unopened_made}
use Rattle.dv_beginning.proofs.Opened.{sound_start}
use Rattle.dv_beginning.proofs.Readings.{read_once}
use Rattle.dv_beginning.proofs.opening.make_new.Goals as goal

pub returns-in-Ok-clause-begins : goal.returns-in-Ok-clause-begins
returns-in-Ok-clause-begins g c = λ tells settled new.
    let S = g.S.Shelf in
    let C = g.C.Clock in
    let done = c.in-Ok.ensures in
    let types = c.have_types.ensures in
    let none = has_none (S.sees.files c.args.shelf) new in
    let made = done.made in
    first_reading C.sees.tells (C.sees.upcoming c.args.clock) (g.met.C.Clock.readings_small c.args.clock) made.at made.small made.clock (λ same.
    begun_made S.sees C.sees _ c.args.shelf new c.in-Ok.store made.is.first (done.opens tells none).0 done.fresh (made.is.files tells)
    (made.is.quiet tells none settled) (record { valid = types.valid; resets = types.resets; place = types.place; indexid = types.indexid })
    (λ told. done.clock told ∙ ap (λ (f : ℕ → ℕ). behind f 1) (sym (same told))))

pub returns-in-Err-clause-begins : goal.returns-in-Err-clause-begins
returns-in-Err-clause-begins g c = λ tells settled new.
    let S = g.S.Shelf in
    let C = g.C.Clock in
    let done = c.in-Err.ensures in
    let none = has_none (S.sees.files c.args.shelf) new in
    let made = done.made in
    first_reading C.sees.tells (C.sees.upcoming c.args.clock) (g.met.C.Clock.readings_small c.args.clock) made.at made.small made.clock (λ same.
    unopened_made S.sees C.sees _ c.args.shelf new c.in-Err.e done.err (made.is.files tells) (made.is.quiet tells none settled)
    (λ t f le left. g.met.S.Shelf.counts_now c.in-Err.e.0 t f le left) (omega (arith, made.small)))

pub returns-in-Ok-clause-clock : goal.returns-in-Ok-clause-clock
returns-in-Ok-clause-clock g c = λ timed.
    let C = g.C.Clock in
    read_once (C.sees.upcoming c.args.clock) (C.sees.upcoming c.in-Ok.store.clock) (Ok c.in-Ok.store.chain) (c.in-Ok.ensures.clock timed) tt

pub returns-in-Err-clause-clock : goal.returns-in-Err-clause-clock
returns-in-Err-clause-clock g c = λ timed.
    let C = g.C.Clock in
    read_once {A = Chain} (C.sees.upcoming c.args.clock) (C.sees.upcoming c.in-Err.e.1) (Err c.in-Err.e.2) (c.in-Err.ensures.clock timed) c.in-Err.ensures.err

-- ---- what it starts from is sound

pub returns-in-Ok-clause-sound : goal.returns-in-Ok-clause-sound
returns-in-Ok-clause-sound g c =
    let types = c.have_types.ensures in
    sound_start g.S.Shelf.sees c.in-Ok.store c.in-Ok.ensures.fresh (record { valid = types.valid; resets = types.resets; place = types.place; indexid = types.indexid })

-- ---- what is found is told

pub returns-in-Ok-clause-found : goal.returns-in-Ok-clause-found
returns-in-Ok-clause-found g c = λ tells new has. has.some new

pub returns-in-Err-clause-found : goal.returns-in-Err-clause-found
returns-in-Err-clause-found g c = λ tells new is. absurd (outside_none c.in-Err.e.2 c.in-Err.ensures.err is)
