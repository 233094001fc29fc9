use Rattle.std.proofs.Common.{◌<◌, ◌≤◌, ◌+◌, List, [], length, refl, sym, ◌∙◌, ap, subst}
use Rattle.std.proofs.lemmas.List.{get_or_read}
use Rattle.std.proofs.lemmas.Result.{err_from_is_err_and}
use Rattle.dv_responses.specs.Met.{met_of}
use Rattle.dv_responses.specs.Damaged.{IsRead}
use Rattle.dv_answer.specs.Following.{Follower, new_follower}
use Rattle.dv_serial.specs.Places.{play_of}
use Rattle.dv_serial.specs.Serves.{AreAbreast, seat_at}
use Rattle.dv_serial.specs.Servings.{Serving}
use Rattle.dv_serving.proofs.Causes.{disk_of, fault_alone, taken_answer, taken_fault}
use Rattle.dv_serial.proofs.Growing.{answered_none, looked_none}
use Rattle.dv_serial.proofs.Looking.{answered_abreast, answered_stays, looked_abreast, looked_same}
use Rattle.dv_serving.proofs.Looking.{on_ok}
use Rattle.dv_serial.proofs.Served.{seat_ended, seat_failed, seat_told}
use Rattle.dv_serial.proofs.serial.Serial.serve_read.Goals as goal

pub returns-in_err-met-in-Ok-clause-serves : goal.returns-in_err-met-in-Ok-clause-serves
returns-in_err-met-in-Ok-clause-serves g c =
    let S = g.S.Shelf in
    let p = err_from_is_err_and c.from_residual.result c.from_residual.ensures.1 in
    λ tells origin attempts small follows.
    rw p.1 (record {
      replies = [];
      taken = tt;
      holds = seat_ended S.sees g.C.Clock.sees origin.clock origin.start origin.base attempts (S.sees.fault_count c.args.self.now.store.shelf) c.args.self.now follows c.args.at (c.args.at + 1) refl c.args.c.now c.requires.allowed.seat small
          c.requires.allowed.servable.command c.requires.allowed.allowed c.requires.read c.add_data.new.self c.in-Ok.ensures.looks (c.in-Ok.ensures.reads tells)
          (S.sees.fault_count c.add_data.new.self.store.shelf) c.in-Ok.ensures.cause.later;
    })

pub returns-in_ok-met-in-Ok-clause-serves : goal.returns-in_ok-met-in-Ok-clause-serves
returns-in_ok-met-in-Ok-clause-serves g c =
    let S = g.S.Shelf in
    let at = c.args.at in
    let did = c.in-Ok.ensures in
    let less = subst (λ (fs : List Follower). at < length fs) (sym (ap (λ (s : Serving g.row.S.Denot g.row.C.Denot). s.seats) c.self.view_is ∙ did.looks.seats)) c.requires.allowed.seat in
    let seen = c.view.ensures ∙ ap (λ (f : Follower). f.state.view) (get_or_read c.self.inside.seats.items at _ less c.index.ensures new_follower) in
    let met_is = (rw (seen, c.live.ensures) at c.in_ok-met-in-Ok.ensures) ∙ ap (λ (s : Serving g.row.S.Denot g.row.C.Denot). met_of c.args.c.now (seat_at s.seats at).state.view s.store.chain.live.mailbox) c.self.view_is in
    let later = subst (λ (s : Serving g.row.S.Denot g.row.C.Denot). S.sees.fault_count c.args.self.now.store.shelf ≤ S.sees.fault_count s.store.shelf) c.finish.ensures.seats did.cause.later in
    λ tells origin attempts small follows.
    seat_told S.sees g.C.Clock.sees origin.clock origin.start origin.base attempts (S.sees.fault_count c.args.self.now.store.shelf) c.args.self.now follows at (at + 1) refl c.args.c.now c.requires.allowed.seat small
    c.requires.allowed.servable.command c.requires.allowed.allowed c.requires.read c.add_data.new.self did.looks (did.reads tells) g.R.Replies.with c.args.replies.now c.finish.new.replies (S.sees.fault_count c.finish.new.self.store.shelf) c.finish.new.self c.finish.result (λ mail view m. IsRead g.R.Replies.with c.args.replies.now c.add_data.new.replies mail c.args.c.now view m c.in-Ok.damaged) c.in_ok-met-in-Ok.met later met_is
    (did.found tells (play_of origin.clock origin.start attempts).log follows.keeps.debt follows.keeps.rests)
    (λ mail m met read. c.finish.ensures.answer mail m c.args.replies.now met (subst (IsRead g.R.Replies.with c.args.replies.now c.add_data.new.replies mail c.args.c.now (seat_at c.add_data.new.self.seats at).state.view c.add_data.new.self.store.chain.live.mailbox) (sym c.as_slice.ensures) read))
    c.finish.ensures.abreast c.finish.ensures.seats c.finish.ensures.err

pub returns-in_ok-met-in-Ok-clause-abreast : goal.returns-in_ok-met-in-Ok-clause-abreast
returns-in_ok-met-in-Ok-clause-abreast g c =
    let mid = c.add_data.new.self in
    on_ok c.finish.result (AreAbreast c.finish.new.self)
    (answered_abreast c.args.at mid c.finish.new.self c.finish.ensures.seats (looked_abreast c.args.self.now mid c.in-Ok.ensures.looks c.requires.abreast) c.finish.ensures.abreast)

pub returns-in_ok-met-in-Ok-clause-cause : goal.returns-in_ok-met-in-Ok-clause-cause
returns-in_ok-met-in-Ok-clause-cause g c =
    let S = g.S.Shelf in
    let at = c.args.at in
    let did = c.in-Ok.ensures in
    let mid = c.add_data.new.self in
    let new = c.finish.new.self in
    let m = mid.store.chain.live.mailbox in
    let less = subst (λ (fs : List Follower). at < length fs) (sym (ap (λ (s : Serving g.row.S.Denot g.row.C.Denot). s.seats) c.self.view_is ∙ did.looks.seats)) c.requires.allowed.seat in
    let seen = c.view.ensures ∙ ap (λ (f : Follower). f.state.view) (get_or_read c.self.inside.seats.items at _ less c.index.ensures new_follower) in
    let met_is = (rw (seen, c.live.ensures) at c.in_ok-met-in-Ok.ensures) ∙ ap (λ (s : Serving g.row.S.Denot g.row.C.Denot). met_of c.args.c.now (seat_at s.seats at).state.view s.store.chain.live.mailbox) c.self.view_is in
    let later = subst (λ (s : Serving g.row.S.Denot g.row.C.Denot). S.sees.fault_count c.args.self.now.store.shelf ≤ S.sees.fault_count s.store.shelf) c.finish.ensures.seats did.cause.later in
    λ tells log debt rest.
    taken_answer (S.sees.fault_count c.args.self.now.store.shelf) (S.sees.fault_count new.store.shelf) g.R.Replies.with c.args.replies.now c.finish.new.replies c.finish.result (seat_at new.seats at).state log.mail (seat_at mid.seats at).state c.args.c.now m mid.groups m mid.store.mark later
    (c.finish.ensures.answer log.mail m c.args.replies.now met_is
    (subst (IsRead g.R.Replies.with c.args.replies.now c.add_data.new.replies log.mail c.args.c.now (seat_at mid.seats at).state.view m) (sym c.as_slice.ensures)
    (looked_same c.args.self.now mid did.looks (λ view n. IsRead g.R.Replies.with c.args.replies.now c.add_data.new.replies log.mail c.args.c.now view n c.in-Ok.damaged) at (did.found tells log debt rest))))

pub returns-in-Err-clause-serves : goal.returns-in-Err-clause-serves
returns-in-Err-clause-serves g c =
    let S = g.S.Shelf in
    let did = c.in-Err.ensures in
    λ tells origin attempts small follows.
    seat_failed S.sees g.C.Clock.sees origin.clock origin.start origin.base attempts (S.sees.fault_count c.args.self.now.store.shelf) c.args.self.now follows c.args.at (c.args.at + 1) refl c.args.c.now c.requires.allowed.seat small
    c.requires.allowed.servable.command c.requires.allowed.allowed c.requires.read c.add_data.new.self did.looks (did.reads tells) g.R.Replies.with c.args.replies.now c.take_fault.new.replies (S.sees.fault_count c.add_data.new.self.store.shelf) c.in-Err.fault c.take_fault.result (λ count e. did.touches count (disk_of c.in-Err.fault count e)) did.err did.cause
    (fault_alone g.R.Replies.with c.args.replies.now c.add_data.new.replies c.take_fault.new.replies c.in-Err.fault c.take_fault.result did.err (λ count e. did.failed tells (play_of origin.clock origin.start attempts).log follows.keeps.debt follows.keeps.rests count (disk_of c.in-Err.fault count e)) c.take_fault.ensures.told)

pub returns-in-Err-clause-cause : goal.returns-in-Err-clause-cause
returns-in-Err-clause-cause g c =
    let S = g.S.Shelf in
    λ tells log debt rest.
    taken_fault (S.sees.fault_count c.args.self.now.store.shelf) (S.sees.fault_count c.add_data.new.self.store.shelf) g.R.Replies.with c.args.replies.now c.take_fault.new.replies c.take_fault.result c.in-Err.fault c.in-Err.ensures.cause
    (fault_alone g.R.Replies.with c.args.replies.now c.add_data.new.replies c.take_fault.new.replies c.in-Err.fault c.take_fault.result c.in-Err.ensures.err (λ count e. c.in-Err.ensures.failed tells log debt rest count (disk_of c.in-Err.fault count e)) c.take_fault.ensures.told)

pub returns-in_ok-met-in-Ok-clause-stays : goal.returns-in_ok-met-in-Ok-clause-stays
returns-in_ok-met-in-Ok-clause-stays g c =
    let looks = c.in-Ok.ensures.looks in
    answered_stays c.args.at c.args.self.now c.add_data.new.self c.finish.new.self looks c.finish.ensures.seats

pub returns-in_err-met-in-Ok-clause-groups : goal.returns-in_err-met-in-Ok-clause-groups
returns-in_err-met-in-Ok-clause-groups g c = looked_none c.args.self.now c.add_data.new.self c.in-Ok.ensures.looks

pub returns-in_ok-met-in-Ok-clause-groups : goal.returns-in_ok-met-in-Ok-clause-groups
returns-in_ok-met-in-Ok-clause-groups g c =
    let mid = c.add_data.new.self in
    answered_none c.args.at c.args.self.now mid c.finish.new.self mid.seats c.finish.ensures.seats (looked_none c.args.self.now mid c.in-Ok.ensures.looks)

pub returns-in-Err-clause-groups : goal.returns-in-Err-clause-groups
returns-in-Err-clause-groups g c = looked_none c.args.self.now c.add_data.new.self c.in-Err.ensures.looks
