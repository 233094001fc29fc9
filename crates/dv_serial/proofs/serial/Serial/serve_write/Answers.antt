use Rattle.std.proofs.Common.{inl, ℕ, ◌+◌, ◌<◌, ◌≤◌, ◌++◌, List, [], length, take, drop, Ok, refl, sym, ◌∙◌, ap, subst, arith}
use Rattle.std.proofs.lemmas.List.{get_or_read}
use Rattle.std.proofs.lemmas.Result.{err_from_is_err_and}
use Rattle.dv_model.specs.Journals.{Damaged, Mail}
use Rattle.dv_model.specs.Sessions.{State as SessionState}
use Rattle.dv_responses.specs.Met.{met_of}
use Rattle.dv_answer.specs.Following.{Follower, Leads, new_follower}
use Rattle.dv_serving.specs.Commits.{LeavesOthers}
use Rattle.dv_serial.specs.Places.{play_of}
use Rattle.dv_serial.specs.Serves.{AreAbreast, seat_at}
use Rattle.dv_serial.specs.Servings.{Serving}
use Rattle.dv_serial.specs.Writes.{IsDone}
use Rattle.dv_serving.proofs.Causes.{taken_answer, taken_fault}
use Rattle.dv_serial.proofs.Growing.{MayGrow, answered_grows, grows_so}
use Rattle.dv_serial.proofs.Looking.{answered_abreast, told_abreast, told_states}
use Rattle.dv_serving.proofs.Looking.{on_ok, unread_supplied, writes_unread}
use Rattle.dv_serial.proofs.Further.{reads_give, reads_still}
use Rattle.dv_serial.proofs.Seated.{abreast_at}
use Rattle.dv_serial.proofs.Served.{seat_still, seat_untold, seat_unwritten, seat_wrote}
use Rattle.dv_serial.proofs.serial.Serial.serve_write.Goals as goal

pub returns-in_err-met-clause-serves : goal.returns-in_err-met-clause-serves
returns-in_err-met-clause-serves g c =
    let S = g.S.Shelf in
    let p = err_from_is_err_and c.from_residual.result c.from_residual.ensures.1 in
    let old = c.args.self.now in
    λ tells origin attempts small follows.
    reads_still S.sees g.C.Clock.sees origin.clock origin.start origin.base (S.sees.fault_count old.store.shelf) attempts old follows
    (rw p.1 (record {
      replies = [];
      taken = tt;
      holds = seat_still S.sees g.C.Clock.sees origin.clock origin.start origin.base attempts (S.sees.fault_count old.store.shelf) old follows c.args.at (c.args.at + 1) refl c.args.c.now c.requires.allowed.seat
          small c.requires.allowed.servable.command (λ f left. g.met.S.Shelf.only_now old.store.shelf f tells left);
    }))

pub returns-in_err-tell_all-in-Ok-clause-serves : goal.returns-in_err-tell_all-in-Ok-clause-serves
returns-in_err-tell_all-in-Ok-clause-serves g c =
    let S = g.S.Shelf in
    let p = err_from_is_err_and c.from_residual-in_err-tell_all-in-Ok.result c.from_residual-in_err-tell_all-in-Ok.ensures.1 in
    let old = c.args.self.now in
    let inside = c.self-in-Ok.inside in
    let mid : Serving g.row.S.Denot g.row.C.Denot = record { store = inside.store; seats = inside.seats.items; groups = inside.groups } in
    let told = c.tell_all.new.seats in
    λ tells origin attempts small follows.
    reads_give S.sees g.C.Clock.sees origin.clock origin.start origin.base (S.sees.fault_count old.store.shelf) attempts old follows (c.in-Ok.ensures.commits tells origin attempts small follows)
    (λ next following both.
    let others = subst (λ (s : Serving g.row.S.Denot g.row.C.Denot). LeavesOthers {A = List ℕ} (play_of next origin.start attempts) (c.args.at + 1, c.args.c.now) (Ok c.in-Ok.touched) (S.sees.files old.store.shelf) (S.sees.files s.store.shelf)) (sym c.self-in-Ok.view_is) both.1 in
    let done = subst (λ (s : Serving g.row.S.Denot g.row.C.Denot). IsDone S.sees g.C.Clock.sees next origin.start attempts (c.args.at + 1, c.args.c.now) c.in-Ok.touched old s) (sym c.self-in-Ok.view_is)
    both.0 in
    rw p.1 (record {
      replies = [];
      taken = tt;
      holds = seat_untold S.sees g.C.Clock.sees next origin.start origin.base attempts (S.sees.fault_count old.store.shelf) old following c.args.at (c.args.at + 1) refl c.args.c.now c.requires.allowed.seat
          small c.requires.allowed.servable.command c.requires.write mid c.in-Ok.touched done others (take inside.seats.len (told ++ drop (length told) inside.seats.items))
          (S.sees.fault_count mid.store.shelf) (subst (λ (s : Serving g.row.S.Denot g.row.C.Denot). S.sees.fault_count old.store.shelf ≤ S.sees.fault_count s.store.shelf) (sym c.self-in-Ok.view_is) c.in-Ok.ensures.cause.later);
    }))

pub answer-requires-clause-abreast : goal.answer-requires-clause-abreast
answer-requires-clause-abreast g c =
    let old = c.args.self.now in
    let inside = c.self-in-Ok.inside in
    let m = inside.store.chain.live.mailbox in
    let slice = c.as_mut_slice in
    let did = c.in_ok-tell_all-in-Ok.ensures in
    let told = c.tell_all.new.seats in
    let seats = take inside.seats.len (told ++ drop (length told) inside.seats.items) in
    let same = slice.ensures.value ∙ ap (λ (s : Serving g.row.S.Denot g.row.C.Denot). s.seats) c.self-in-Ok.view_is ∙ c.in-Ok.ensures.seats in
    let has = told_states old.seats inside.seats.items slice.result.now told inside.seats.len same slice.ensures.len did.states in
    let leads = subst (λ (s : Serving g.row.S.Denot g.row.C.Denot). Leads old.store.chain.live.mailbox s.store.chain.live.mailbox c.in-Ok.touched) (sym c.self-in-Ok.view_is) c.in-Ok.ensures.leads in
    let all = told_abreast old.seats inside.seats.items slice.result.now told inside.seats.len same slice.ensures.len did.states old.store.chain.live.mailbox m c.requires.abreast (λ before. did.abreast old.store.chain.live.mailbox m before leads) in
    abreast_at m seats c.args.at (subst (λ (n : ℕ). c.args.at < n) (sym has.count) c.requires.allowed.seat) all

pub returns-in_ok-tell_all-in-Ok-clause-serves : goal.returns-in_ok-tell_all-in-Ok-clause-serves
returns-in_ok-tell_all-in-Ok-clause-serves g c =
    let S = g.S.Shelf in
    let at = c.args.at in
    let old = c.args.self.now in
    let inside = c.self-in-Ok.inside in
    let m = inside.store.chain.live.mailbox in
    let mid : Serving g.row.S.Denot g.row.C.Denot = record { store = inside.store; seats = inside.seats.items; groups = inside.groups } in
    let slice = c.as_mut_slice in
    let did = c.in_ok-tell_all-in-Ok.ensures in
    let told = c.tell_all.new.seats in
    let seats = take inside.seats.len (told ++ drop (length told) inside.seats.items) in
    let same = slice.ensures.value ∙ ap (λ (s : Serving g.row.S.Denot g.row.C.Denot). s.seats) c.self-in-Ok.view_is ∙ c.in-Ok.ensures.seats in
    let has = told_states old.seats inside.seats.items slice.result.now told inside.seats.len same slice.ensures.len did.states in
    let leads = subst (λ (s : Serving g.row.S.Denot g.row.C.Denot). Leads old.store.chain.live.mailbox s.store.chain.live.mailbox c.in-Ok.touched) (sym c.self-in-Ok.view_is) c.in-Ok.ensures.leads in
    let all = told_abreast old.seats inside.seats.items slice.result.now told inside.seats.len same slice.ensures.len did.states old.store.chain.live.mailbox m c.requires.abreast (λ before. did.abreast old.store.chain.live.mailbox m before leads) in
    let less = rw (← c.self.view_is) at c.requires.allowed.seat in
    let seen = c.view.ensures ∙ ap (λ (f : Follower). f.state.view) (get_or_read c.self.inside.seats.items at _ less c.index.ensures new_follower) in
    let met_is = (rw (seen, c.live.ensures) at c.in_ok-met.ensures) ∙ ap (λ (s : Serving g.row.S.Denot g.row.C.Denot). met_of c.args.c.now (seat_at s.seats at).state.view s.store.chain.live.mailbox) c.self.view_is in
    let later = subst (λ (s : Serving g.row.S.Denot g.row.C.Denot). S.sees.fault_count old.store.shelf ≤ S.sees.fault_count s.store.shelf) c.answer.ensures.seats
    (subst (λ (s : Serving g.row.S.Denot g.row.C.Denot). S.sees.fault_count old.store.shelf ≤ S.sees.fault_count s.store.shelf) (sym c.self-in-Ok.view_is) c.in-Ok.ensures.cause.later) in
    λ tells origin attempts small follows.
    reads_give S.sees g.C.Clock.sees origin.clock origin.start origin.base (S.sees.fault_count old.store.shelf) attempts old follows (c.in-Ok.ensures.commits tells origin attempts small follows)
    (λ next following both.
    let others = subst (λ (s : Serving g.row.S.Denot g.row.C.Denot). LeavesOthers {A = List ℕ} (play_of next origin.start attempts) (c.args.at + 1, c.args.c.now) (Ok c.in-Ok.touched) (S.sees.files old.store.shelf) (S.sees.files s.store.shelf)) (sym c.self-in-Ok.view_is) both.1 in
    let done = subst (λ (s : Serving g.row.S.Denot g.row.C.Denot). IsDone S.sees g.C.Clock.sees next origin.start attempts (c.args.at + 1, c.args.c.now) c.in-Ok.touched old s) (sym c.self-in-Ok.view_is)
    both.0 in
    seat_wrote S.sees g.C.Clock.sees next origin.start origin.base attempts (S.sees.fault_count old.store.shelf) old following at (c.args.at + 1) refl c.args.c.now c.requires.allowed.seat
    small c.requires.allowed.servable.command c.requires.write mid c.in-Ok.touched done others seats g.R.Replies.with c.args.replies.now c.answer.new.replies (S.sees.fault_count c.answer.new.self.store.shelf) c.answer.new.self c.answer.result c.new-none.result c.in_ok-met.met later has all met_is
    c.answer.ensures.answer c.answer.ensures.abreast c.answer.ensures.seats c.answer.ensures.err)

pub returns-in_ok-tell_all-in-Ok-clause-abreast : goal.returns-in_ok-tell_all-in-Ok-clause-abreast
returns-in_ok-tell_all-in-Ok-clause-abreast g c =
    let old = c.args.self.now in
    let inside = c.self-in-Ok.inside in
    let m = inside.store.chain.live.mailbox in
    let slice = c.as_mut_slice in
    let did = c.in_ok-tell_all-in-Ok.ensures in
    let told = c.tell_all.new.seats in
    let seats = take inside.seats.len (told ++ drop (length told) inside.seats.items) in
    let part : Serving g.row.S.Denot g.row.C.Denot = record { store = inside.store; seats = seats; groups = inside.groups } in
    let same = slice.ensures.value ∙ ap (λ (s : Serving g.row.S.Denot g.row.C.Denot). s.seats) c.self-in-Ok.view_is ∙ c.in-Ok.ensures.seats in
    let leads = subst (λ (s : Serving g.row.S.Denot g.row.C.Denot). Leads old.store.chain.live.mailbox s.store.chain.live.mailbox c.in-Ok.touched) (sym c.self-in-Ok.view_is) c.in-Ok.ensures.leads in
    let all = told_abreast old.seats inside.seats.items slice.result.now told inside.seats.len same slice.ensures.len did.states old.store.chain.live.mailbox m c.requires.abreast (λ before. did.abreast old.store.chain.live.mailbox m before leads) in
    on_ok c.answer.result (AreAbreast c.answer.new.self) (answered_abreast c.args.at part c.answer.new.self c.answer.ensures.seats all c.answer.ensures.abreast)

pub returns-in_ok-tell_all-in-Ok-clause-cause : goal.returns-in_ok-tell_all-in-Ok-clause-cause
returns-in_ok-tell_all-in-Ok-clause-cause g c =
    let S = g.S.Shelf in
    let at = c.args.at in
    let old = c.args.self.now in
    let new = c.answer.new.self in
    let inside = c.self-in-Ok.inside in
    let m = inside.store.chain.live.mailbox in
    let slice = c.as_mut_slice in
    let told = c.tell_all.new.seats in
    let seats = take inside.seats.len (told ++ drop (length told) inside.seats.items) in
    let same = slice.ensures.value ∙ ap (λ (s : Serving g.row.S.Denot g.row.C.Denot). s.seats) c.self-in-Ok.view_is ∙ c.in-Ok.ensures.seats in
    let has = told_states old.seats inside.seats.items slice.result.now told inside.seats.len same slice.ensures.len c.in_ok-tell_all-in-Ok.ensures.states in
    let less = rw (← c.self.view_is) at c.requires.allowed.seat in
    let seen = c.view.ensures ∙ ap (λ (f : Follower). f.state.view) (get_or_read c.self.inside.seats.items at _ less c.index.ensures new_follower) in
    let met_is = (rw (seen, c.live.ensures) at c.in_ok-met.ensures) ∙ ap (λ (s : Serving g.row.S.Denot g.row.C.Denot). met_of c.args.c.now (seat_at s.seats at).state.view s.store.chain.live.mailbox) c.self.view_is in
    let met_told = met_is ∙ ap (λ (x : SessionState). met_of c.args.c.now x.view old.store.chain.live.mailbox) (sym (has.states at new_follower c.requires.allowed.seat)) in
    let later = subst (λ (s : Serving g.row.S.Denot g.row.C.Denot). S.sees.fault_count old.store.shelf ≤ S.sees.fault_count s.store.shelf) c.answer.ensures.seats
    (subst (λ (s : Serving g.row.S.Denot g.row.C.Denot). S.sees.fault_count old.store.shelf ≤ S.sees.fault_count s.store.shelf) (sym c.self-in-Ok.view_is) c.in-Ok.ensures.cause.later) in
    let mail : ℕ → Mail = λ uid. Damaged in
    taken_answer (S.sees.fault_count old.store.shelf) (S.sees.fault_count new.store.shelf) g.R.Replies.with c.args.replies.now c.answer.new.replies c.answer.result (seat_at new.seats at).state mail (seat_at seats at).state c.args.c.now old.store.chain.live.mailbox inside.groups m inside.store.mark later
    (c.answer.ensures.answer mail old.store.chain.live.mailbox met_told (unread_supplied mail c.args.c.now (seat_at seats at).state m c.new-none.result (writes_unread c.args.c.now c.requires.write)))

pub returns-in-Err-clause-serves : goal.returns-in-Err-clause-serves
returns-in-Err-clause-serves g c =
    let S = g.S.Shelf in
    let old = c.args.self.now in
    let did = c.in-Err.ensures in
    λ tells origin attempts small follows.
    reads_give S.sees g.C.Clock.sees origin.clock origin.start origin.base (S.sees.fault_count old.store.shelf) attempts old follows (did.commits tells origin attempts small follows)
    (λ next following both.
    seat_unwritten S.sees g.C.Clock.sees next origin.start origin.base attempts (S.sees.fault_count old.store.shelf) old following c.args.at (c.args.at + 1) refl c.args.c.now c.requires.allowed.seat
    small c.requires.allowed.servable.command c.requires.write c.commit.new.self g.R.Replies.with c.args.replies.now c.take_fault.new.replies (S.sees.fault_count c.commit.new.self.store.shelf) c.in-Err.fault c.take_fault.result both.0 did.cause
    did.seats both.1 c.take_fault.ensures.told)

pub returns-in-Err-clause-cause : goal.returns-in-Err-clause-cause
returns-in-Err-clause-cause g c =
    let S = g.S.Shelf in
    taken_fault (S.sees.fault_count c.args.self.now.store.shelf) (S.sees.fault_count c.commit.new.self.store.shelf) g.R.Replies.with c.args.replies.now c.take_fault.new.replies c.take_fault.result c.in-Err.fault c.in-Err.ensures.cause c.take_fault.ensures.told

-- ---- groups

pub returns-in_err-met-clause-groups : goal.returns-in_err-met-clause-groups
returns-in_err-met-clause-groups g c =
    let p = err_from_is_err_and c.from_residual.result c.from_residual.ensures.1 in
    rw p.1 (omega arith)

pub returns-in_err-tell_all-in-Ok-clause-groups : goal.returns-in_err-tell_all-in-Ok-clause-groups
returns-in_err-tell_all-in-Ok-clause-groups g c =
    let p = err_from_is_err_and c.from_residual-in_err-tell_all-in-Ok.result c.from_residual-in_err-tell_all-in-Ok.ensures.1 in
    let few = subst (λ (s : Serving g.row.S.Denot g.row.C.Denot). s.groups ≤ c.args.self.now.groups + 1) (sym c.self-in-Ok.view_is) c.in-Ok.ensures.groups in
    rw p.1 few

pub returns-in_ok-tell_all-in-Ok-clause-groups : goal.returns-in_ok-tell_all-in-Ok-clause-groups
returns-in_ok-tell_all-in-Ok-clause-groups g c =
    let old = c.args.self.now in
    let inside = c.self-in-Ok.inside in
    let mid : Serving g.row.S.Denot g.row.C.Denot = record { store = inside.store; seats = inside.seats.items; groups = inside.groups } in
    let told = c.tell_all.new.seats in
    let seats = take inside.seats.len (told ++ drop (length told) inside.seats.items) in
    let wrote = subst (λ (s : Serving g.row.S.Denot g.row.C.Denot). MayGrow old s c.in-Ok.touched) (sym c.self-in-Ok.view_is) c.in-Ok.ensures.wrote in
    grows_so old c.answer.new.self c.in-Ok.touched c.answer.result (answered_grows c.args.at old mid c.answer.new.self seats c.in-Ok.touched c.answer.ensures.seats wrote)

pub returns-in-Err-clause-groups : goal.returns-in-Err-clause-groups
returns-in-Err-clause-groups g c = grows_so c.args.self.now c.commit.new.self c.args.changed.now c.take_fault.result (inl c.in-Err.ensures.wrote)
