use Rattle.std.proofs.Common.{◌≡◌, ◌∙◌, List, None, ap, false, is_some, refl, sym, true}
use Rattle.std.specs.Prelude.{position}
use Rattle.dv_apply.specs.States.{Held}
use Rattle.dv_world.specs.declared.kept.Seat.{Seat}
use Rattle.dv_world.proofs.Found.{is_of, none_of, some_there}
use Rattle.dv_world.proofs.Opens.{opened_kept, opened_some}
use Rattle.dv_world.specs.Shapes.{kept_world}
use Rattle.dv_world.proofs.opening.open.Goals as goal

pub returns-then-is_some-clause-ok : goal.returns-then-is_some-clause-ok
returns-then-is_some-clause-ok c =
    let k = c.args.kept.now in
    let s = c.args.number in
    let some : is_some (position (is_of s) k.seats.items) ≡ true =
    ap is_some (ap (position (is_of s)) (sym c.deref.ensures.value) ∙ sym c.place_of.ensures) ∙ sym c.is_some.ensures ∙ c.if-is_some.true in
    let there = some_there k.seats.items s some in
    sym (opened_some (kept_world k) s there.0 there.1)

pub returns-clause-ok : goal.returns-clause-ok
returns-clause-ok c =
    let k = c.args.kept.now in
    let s = c.args.number in
    let no : is_some (position (is_of s) k.seats.items) ≡ false =
    ap is_some (ap (position (is_of s)) (sym c.deref.ensures.value) ∙ sym c.place_of.ensures) ∙ sym c.is_some.ensures ∙ c.if-is_some.false in
    let seat : Seat = record { number = s; session = c.new.result; told = k.published; seen = k.published; live = c.in_ok-live.live; wrote = None; answers = c.new-2.result } in
    (opened_kept k c.requires seat c.new.ensures refl refl (ap (λ (h : Held). h.mailbox) c.in_ok-live.ensures) refl c.new-2.ensures.items (none_of (position (is_of s) k.seats.items) no)
    (record k { seats = c.push.new.self }) (record { log = refl; logged = refl; published = refl; front = refl; end = refl }) refl c.in_ok-push.ensures.items).0

pub returns-clause-kept : goal.returns-clause-kept
returns-clause-kept c =
    let k = c.args.kept.now in
    let s = c.args.number in
    let no : is_some (position (is_of s) k.seats.items) ≡ false =
    ap is_some (ap (position (is_of s)) (sym c.deref.ensures.value) ∙ sym c.place_of.ensures) ∙ sym c.is_some.ensures ∙ c.if-is_some.false in
    let seat : Seat = record { number = s; session = c.new.result; told = k.published; seen = k.published; live = c.in_ok-live.live; wrote = None; answers = c.new-2.result } in
    (opened_kept k c.requires seat c.new.ensures refl refl (ap (λ (h : Held). h.mailbox) c.in_ok-live.ensures) refl c.new-2.ensures.items (none_of (position (is_of s) k.seats.items) no)
    (record k { seats = c.push.new.self }) (record { log = refl; logged = refl; published = refl; front = refl; end = refl }) refl c.in_ok-push.ensures.items).1
