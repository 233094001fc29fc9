use Rattle.std.proofs.Common.{◌≡◌, inl, refl, ◌<◌, ◌≤◌, ◌+◌, ◌-◌, ◌^◌, ℕ, length, sym, ◌∙◌, ap, arith, subst}
use Rattle.std.proofs.lemmas.List.{get_or_read}
use Rattle.dv_answer.specs.Following.{Follower, new_follower}
use Rattle.dv_answer.specs.Refusing.{own_refusal}
use Rattle.dv_serving.specs.Faults.{faults_of}
use Rattle.dv_serving.specs.Taking.{Takes}
use Rattle.dv_serial.specs.Serves.{Serves, seat_at}
use Rattle.dv_serial.specs.Servings.{Serving}
use Rattle.dv_serial.proofs.Further.{reads_still}
use Rattle.dv_serial.proofs.Growing.{grows_so}
use Rattle.dv_serial.proofs.Served.{seat_refused}
use Rattle.dv_serial.proofs.serial.Serial.serve.Goals as goal

pub returns-in-Some-clause-serves : goal.returns-in-Some-clause-serves
returns-in-Some-clause-serves g c =
    let S = g.S.Shelf in
    let old = c.args.self.now in
    let number = c.args.number in
    let at = number - 1 in
    let low : 1 ≤ number = c.requires.asked.seat.0 in
    let high : number ≤ length old.seats = c.requires.asked.seat.1 in
    let number_is : number ≡ at + 1 = omega arith in
    let less : at < length old.seats = omega arith in
    let within = rw (← c.self.view_is) at less in
    let seat = get_or_read c.self.inside.seats.items at _ within c.index.ensures new_follower in
    let own = ap (λ (s : Serving g.row.S.Denot g.row.C.Denot). own_refusal (seat_at s.seats at).state c.args.c.now) (sym c.self.view_is)
    ∙ ap (λ (f : Follower). own_refusal f.state c.args.c.now) (sym seat)
    ∙ sym c.in-Some.ensures in
    λ tells origin attempts follows.
    reads_still S.sees g.C.Clock.sees origin.clock origin.start origin.base (S.sees.fault_count old.store.shelf) attempts old follows
    (seat_refused S.sees g.C.Clock.sees origin.clock origin.start origin.base attempts (S.sees.fault_count old.store.shelf) old follows at number number_is c.args.c.now less (omega (arith, c.ranges.number.fits)) c.requires.asked.servable.command
    g.R.Replies.with c.args.replies.now c.take.new.self c.in-Some.refusal c.take.result own (λ f left. g.met.S.Shelf.only_now old.store.shelf f tells left) c.take.ensures.ok)

pub returns-else-is_write-clause-serves : goal.returns-else-is_write-clause-serves
returns-else-is_write-clause-serves g c =
    let S = g.S.Shelf in
    let C = g.C.Clock in
    let old = c.args.self.now in
    let new = c.serve_read.new.self in
    let number = c.args.number in
    let at = number - 1 in
    let low : 1 ≤ number = c.requires.asked.seat.0 in
    let number_is : at + 1 ≡ number = omega arith in
    λ tells origin attempts follows.
    reads_still S.sees C.sees origin.clock origin.start origin.base (S.sees.fault_count old.store.shelf) attempts old follows
    (subst (λ (n : ℕ). Takes g.R.Replies.with c.args.replies.now c.serve_read.new.replies c.serve_read.result (λ told. Serves S.sees C.sees origin (faults_of S.sees old.store.shelf new.store.shelf) attempts (n, c.args.c.now) told old new)) number_is
    (c.serve_read.ensures.serves tells origin attempts (omega (arith, c.ranges.number.fits)) follows))

pub returns-in-Some-clause-groups : goal.returns-in-Some-clause-groups
returns-in-Some-clause-groups g c = grows_so c.args.self.now c.args.self.now c.args.changed.now c.take.result (inl (record { mailbox = refl; groups = refl }))

pub returns-else-is_write-clause-groups : goal.returns-else-is_write-clause-groups
returns-else-is_write-clause-groups g c = grows_so c.args.self.now c.serve_read.new.self c.args.changed.now c.serve_read.result (inl c.serve_read.ensures.groups)
