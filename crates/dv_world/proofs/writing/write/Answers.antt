use Rattle.std.proofs.Common.{rules, ◌≡◌, ◌∙◌, ℕ, ◌^◌, ◌<◌, List, None, Option, Some, ap, arith, false, is_some, length, map, subst, sym, true}
use Rattle.std.specs.Prelude.{IsSome, position, slice_get}
use Rattle.dv_model.specs.Transcripts.{refused_at}
use Rattle.dv_interleavings.specs.Worlds.{may_write}
use Rattle.dv_world.specs.declared.writing.Made.{Made}
use Rattle.dv_world.specs.Keeping.{kept_log}
use Rattle.dv_world.specs.Writing.{IsWritten}
use Rattle.dv_world.specs.Shapes.{kept_world, session_of, state_of}
use Rattle.dv_world.proofs.Found.{is_of, there_is}
use Rattle.dv_world.proofs.Writes.{refused_own, taken_so, writes_later, writes_nobody, writes_refused}
use Rattle.dv_world.proofs.writing.write.Goals as goal

pub returns-in_default-clause-ok : goal.returns-in_default-clause-ok
returns-in_default-clause-ok c =
    let none : c.place_of.result ≡ None = search rules in
    writes_nobody c.args.kept.now c.args.number c.args.c.now c.args.received (ap (position (is_of c.args.number)) (sym c.deref.ensures.value) ∙ sym c.place_of.ensures ∙ none)

pub returns-then-not-may_write-clause-ok : goal.returns-then-not-may_write-clause-ok
returns-then-not-may_write-clause-ok c =
    let k = c.args.kept.now in
    let s = c.args.number in
    let seat = c.index-seat.result.now in
    let found : position (is_of s) k.seats.items ≡ Some c.in-Some.at = ap (position (is_of s)) (sym c.deref.ensures.value) ∙ sym c.place_of.ensures ∙ c.in-Some.is in
    let there : slice_get k.seats.items c.in-Some.at ≡ Some seat = there_is k.seats.items s c.in-Some.at seat found c.index-seat.ensures in
    let no : c.may_write.result ≡ false = search rules in
    writes_later k c.requires.kept s c.args.c.now c.args.received c.in-Some.at seat found there (sym c.may_write.ensures ∙ no)

pub returns-then-is_some-clause-ok : goal.returns-then-is_some-clause-ok
returns-then-is_some-clause-ok c =
    let k = c.args.kept.now in
    let s = c.args.number in
    let seat = c.index-seat.result.now in
    let found : position (is_of s) k.seats.items ≡ Some c.in-Some.at = ap (position (is_of s)) (sym c.deref.ensures.value) ∙ sym c.place_of.ensures ∙ c.in-Some.is in
    let there : slice_get k.seats.items c.in-Some.at ≡ Some seat = there_is k.seats.items s c.in-Some.at seat found c.index-seat.ensures in
    let may : c.may_write.result ≡ true = search rules in
    let own = sym (ap is_some c.refuse.ensures) ∙ sym c.is_some.ensures ∙ c.if-is_some.true in
    writes_refused k c.requires.kept s c.args.c.now c.args.received c.in-Some.at seat found there (sym c.may_write.ensures ∙ may)
    (refused_own (kept_log k) (length (kept_log k).entries) (state_of seat) c.args.c.now k.end.mailbox own)

pub returns-in_default-2-clause-ok : goal.returns-in_default-2-clause-ok
returns-in_default-2-clause-ok c =
    let k = c.args.kept.now in
    let s = c.args.number in
    let cmd = c.args.c.now in
    let seat = c.index-seat.result.now in
    let at = c.in-Some.at in
    let found : position (is_of s) k.seats.items ≡ Some at = ap (position (is_of s)) (sym c.deref.ensures.value) ∙ sym c.place_of.ensures ∙ c.in-Some.is in
    let there : slice_get k.seats.items at ≡ Some seat = there_is k.seats.items s at seat found c.index-seat.ensures in
    let yes : c.may_write.result ≡ true = search rules in
    let may : may_write (kept_world k) (session_of seat) cmd ≡ true = sym c.may_write.ensures ∙ yes in
    let none : c.in_ok-made.field-0 ≡ None = search rules in
    let refused = subst (λ (o : Option Made). IsWritten (kept_log k) (state_of seat) cmd k.end.mailbox o) none c.in_ok-made.ensures in
    writes_refused k c.requires.kept s cmd c.args.received at seat found there may refused

pub returns-clause-ok : goal.returns-clause-ok
returns-clause-ok c =
    let k = c.args.kept.now in
    let s = c.args.number in
    let cmd = c.args.c.now in
    let seat = c.index-seat.result.now in
    let at = c.in-Some.at in
    let found : position (is_of s) k.seats.items ≡ Some at = ap (position (is_of s)) (sym c.deref.ensures.value) ∙ sym c.place_of.ensures ∙ c.in-Some.is in
    let there : slice_get k.seats.items at ≡ Some seat = there_is k.seats.items s at seat found c.index-seat.ensures in
    let yes : c.may_write.result ≡ true = search rules in
    let may : may_write (kept_world k) (session_of seat) cmd ≡ true = sym c.may_write.ensures ∙ yes in
    let made = c.in-Some-2.made in
    let is_made = subst (λ (o : Option Made). IsWritten (kept_log k) (state_of seat) cmd k.end.mailbox o) c.in-Some-2.is c.in_ok-made.ensures in
    let small : s < 2 ^ 32 = omega arith in
    (taken_so k c.requires.kept s cmd c.args.received at seat found there may made is_made c.take_made.new.kept c.take_made.ensures.stays c.take_made.ensures.tried c.take_made.ensures.done small c.requires.named).0

pub returns-clause-kept : goal.returns-clause-kept
returns-clause-kept c =
    let k = c.args.kept.now in
    let s = c.args.number in
    let cmd = c.args.c.now in
    let seat = c.index-seat.result.now in
    let at = c.in-Some.at in
    let found : position (is_of s) k.seats.items ≡ Some at = ap (position (is_of s)) (sym c.deref.ensures.value) ∙ sym c.place_of.ensures ∙ c.in-Some.is in
    let there : slice_get k.seats.items at ≡ Some seat = there_is k.seats.items s at seat found c.index-seat.ensures in
    let yes : c.may_write.result ≡ true = search rules in
    let may : may_write (kept_world k) (session_of seat) cmd ≡ true = sym c.may_write.ensures ∙ yes in
    let made = c.in-Some-2.made in
    let is_made = subst (λ (o : Option Made). IsWritten (kept_log k) (state_of seat) cmd k.end.mailbox o) c.in-Some-2.is c.in_ok-made.ensures in
    let small : s < 2 ^ 32 = omega arith in
    (taken_so k c.requires.kept s cmd c.args.received at seat found there may made is_made c.take_made.new.kept c.take_made.ensures.stays c.take_made.ensures.tried c.take_made.ensures.done small c.requires.named).1
