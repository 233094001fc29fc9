use Rattle.std.proofs.Common.{rules, ◌≡◌, ◌∙◌, ℕ, List, None, Option, Some, ap, false, is_some, map, subst, sym, true}
use Rattle.std.specs.Prelude.{position, slice_get}
use Rattle.std.proofs.lemmas.Option.{same_Some}
use Rattle.dv_model.specs.declared.types.Mailbox.{Mailbox}
use Rattle.dv_model.specs.Journals.{mark_of}
use Rattle.dv_model.specs.Sessions.{answer}
use Rattle.dv_model.proofs.Speaking.{one_of}
use Rattle.dv_apply.specs.States.{Held}
use Rattle.dv_responses.specs.Met.{met_of}
use Rattle.dv_answer.specs.Refusing.{own_refusal}
use Rattle.dv_interleavings.specs.Worlds.{mail_of}
use Rattle.dv_world.specs.declared.kept.Seat.{Seat}
use Rattle.dv_world.specs.Keeping.{IsSeat, kept_log}
use Rattle.dv_world.specs.Shapes.{seated, session_of, state_of, stored_of}
use Rattle.dv_world.specs.Telling.{answered, taken_by}
use Rattle.dv_world.proofs.Found.{is_of, there_is}
use Rattle.dv_world.proofs.Loads.{kept_so, on_err, plain_so}
use Rattle.dv_world.proofs.Tells.{tells_bad, tells_early, tells_nobody, told_so}
use Rattle.dv_world.proofs.telling.tell.Goals as goal

pub returns-in_default-clause-ok : goal.returns-in_default-clause-ok
returns-in_default-clause-ok c =
    let none : c.place_of.result ≡ None = search rules in
    tells_nobody c.args.kept.now c.args.number c.args.c.now (ap (position (is_of c.args.number)) (sym c.deref.ensures.value) ∙ sym c.place_of.ensures ∙ none)

pub returns-then-is_some-clause-ok : goal.returns-then-is_some-clause-ok
returns-then-is_some-clause-ok c =
    let k = c.args.kept.now in
    let s = c.args.number in
    let cmd = c.args.c.now in
    let at = c.in-Some.at in
    let seat = c.index-seat.result.now in
    let found : position (is_of s) k.seats.items ≡ Some at = ap (position (is_of s)) (sym c.deref.ensures.value) ∙ sym c.place_of.ensures ∙ c.in-Some.is in
    let there : slice_get k.seats.items at ≡ Some seat = there_is k.seats.items s at seat found c.index-seat.ensures in
    tells_bad k c.requires.kept s cmd at seat found there (sym (ap is_some c.refuse.ensures) ∙ sym c.is_some.ensures ∙ c.if-is_some.true)

pub returns-in_default-2-clause-ok : goal.returns-in_default-2-clause-ok
returns-in_default-2-clause-ok c =
    let k = c.args.kept.now in
    let s = c.args.number in
    let cmd = c.args.c.now in
    let at = c.in-Some.at in
    let seat = c.index-seat.result.now in
    let found : position (is_of s) k.seats.items ≡ Some at = ap (position (is_of s)) (sym c.deref.ensures.value) ∙ sym c.place_of.ensures ∙ c.in-Some.is in
    let there : slice_get k.seats.items at ≡ Some seat = there_is k.seats.items s at seat found c.index-seat.ensures in
    let good : is_some (own_refusal seat.session.state cmd) ≡ false = sym (ap is_some c.refuse.ensures) ∙ sym c.is_some.ensures ∙ c.if-is_some.false in
    let none : c.in_ok-taken.field-0 ≡ None = search rules in
    tells_early k c.requires.kept s cmd at seat found there good (sym c.in_ok-taken.ensures ∙ none)

pub answer-requires-clause-abreast : goal.answer-requires-clause-abreast
answer-requires-clause-abreast c =
    let k = c.args.kept.now in
    let s = c.args.number in
    let cmd = c.args.c.now in
    let at = c.in-Some.at in
    let first = c.index-seat.result.now in
    let seat = c.index_mut-seat.result.now in
    let found : position (is_of s) k.seats.items ≡ Some at = ap (position (is_of s)) (sym c.deref.ensures.value) ∙ sym c.place_of.ensures ∙ c.in-Some.is in
    let there : slice_get k.seats.items at ≡ Some seat = there_is k.seats.items s at seat found c.index_mut-seat.ensures.value in
    (one_of (IsSeat (kept_log k)) k.seats.items at seat c.requires.kept.seats there).abreast

pub returns-in_err-answer-clause-kept : goal.returns-in_err-answer-clause-kept
returns-in_err-answer-clause-kept c =
    let k = c.args.kept.now in
    let s = c.args.number in
    let cmd = c.args.c.now in
    let at = c.in-Some.at in
    let first = c.index-seat.result.now in
    let seat = c.index_mut-seat.result.now in
    let found : position (is_of s) k.seats.items ≡ Some at = ap (position (is_of s)) (sym c.deref.ensures.value) ∙ sym c.place_of.ensures ∙ c.in-Some.is in
    let there : slice_get k.seats.items at ≡ Some seat = there_is k.seats.items s at seat found c.index_mut-seat.ensures.value in
    kept_so k c.requires.kept at seat there c.answer.new.seat c.in_err-answer.ensures.err.0 (ap (λ (x : Held). x.mailbox) c.answer.ensures.live) c.in_err-answer.ensures.err.1 c.in_err-answer.ensures.err.2

pub returns-in_err-answer-clause-err : goal.returns-in_err-answer-clause-err
returns-in_err-answer-clause-err c =
    let k = c.args.kept.now in
    let s = c.args.number in
    let cmd = c.args.c.now in
    let at = c.in-Some.at in
    let first = c.index-seat.result.now in
    let seat = c.index_mut-seat.result.now in
    let found : position (is_of s) k.seats.items ≡ Some at = ap (position (is_of s)) (sym c.deref.ensures.value) ∙ sym c.place_of.ensures ∙ c.in-Some.is in
    let there : slice_get k.seats.items at ≡ Some seat = there_is k.seats.items s at seat found c.index_mut-seat.ensures.value in
    on_err c.from_residual-in_err-answer.result (plain_so k c.requires.kept at seat there c.answer.new.seat c.in_err-answer.ensures.err.0)

pub returns-clause-ok : goal.returns-clause-ok
returns-clause-ok c =
    let k = c.args.kept.now in
    let s = c.args.number in
    let cmd = c.args.c.now in
    let at = c.in-Some.at in
    let first = c.index-seat.result.now in
    let seat = c.index_mut-seat.result.now in
    let found : position (is_of s) k.seats.items ≡ Some at = ap (position (is_of s)) (sym c.deref.ensures.value) ∙ sym c.place_of.ensures ∙ c.in-Some.is in
    let there : slice_get k.seats.items at ≡ Some seat = there_is k.seats.items s at seat found c.index_mut-seat.ensures.value in
    let same : first ≡ seat = same_Some first seat (sym (there_is k.seats.items s at first found c.index-seat.ensures) ∙ there) in
    let own = ap (λ (x : Seat). is_some (own_refusal x.session.state cmd)) (sym same) in
    let good : is_some (own_refusal seat.session.state cmd) ≡ false = own ∙ sym (ap is_some c.refuse.ensures) ∙ sym c.is_some.ensures ∙ c.if-is_some.false in
    let may : taken_by seat cmd ≡ Some c.in-Some-2.taken = ap (λ (x : Seat). taken_by x cmd) (sym same) ∙ sym c.in_ok-taken.ensures ∙ c.in-Some-2.is in
    let mark = c.mark_of-mark.ensures ∙ ap (λ (x : Seat). mark_of (kept_log k) x.seen) same in
    let answers = subst (λ (stored : List (ℕ × Option (List ℕ) × List ℕ)). (met : Mailbox) → c.in-Some-2.taken ≡ met_of cmd seat.session.state.view met
    → seated c.answer.new.seat ≡ (seat.number, answered (session_of seat) cmd (answer (mail_of (map stored_of stored)) (state_of seat) cmd met seat.seen seat.live.mailbox c.mark_of-mark.result))) c.deref-2.ensures.value c.in_ok-answer.ensures.ok in
    (told_so k c.requires.kept s cmd at seat found there good c.in-Some-2.taken may c.mark_of-mark.result mark c.answer.new.seat answers c.stop_own.new.pending c.stop_own.ensures c.answer.ensures.live c.answer.ensures.abreast c.in_ok-answer.ensures.wrote).0

pub returns-clause-kept : goal.returns-clause-kept
returns-clause-kept c =
    let k = c.args.kept.now in
    let s = c.args.number in
    let cmd = c.args.c.now in
    let at = c.in-Some.at in
    let first = c.index-seat.result.now in
    let seat = c.index_mut-seat.result.now in
    let found : position (is_of s) k.seats.items ≡ Some at = ap (position (is_of s)) (sym c.deref.ensures.value) ∙ sym c.place_of.ensures ∙ c.in-Some.is in
    let there : slice_get k.seats.items at ≡ Some seat = there_is k.seats.items s at seat found c.index_mut-seat.ensures.value in
    let same : first ≡ seat = same_Some first seat (sym (there_is k.seats.items s at first found c.index-seat.ensures) ∙ there) in
    let own = ap (λ (x : Seat). is_some (own_refusal x.session.state cmd)) (sym same) in
    let good : is_some (own_refusal seat.session.state cmd) ≡ false = own ∙ sym (ap is_some c.refuse.ensures) ∙ sym c.is_some.ensures ∙ c.if-is_some.false in
    let may : taken_by seat cmd ≡ Some c.in-Some-2.taken = ap (λ (x : Seat). taken_by x cmd) (sym same) ∙ sym c.in_ok-taken.ensures ∙ c.in-Some-2.is in
    let mark = c.mark_of-mark.ensures ∙ ap (λ (x : Seat). mark_of (kept_log k) x.seen) same in
    let answers = subst (λ (stored : List (ℕ × Option (List ℕ) × List ℕ)). (met : Mailbox) → c.in-Some-2.taken ≡ met_of cmd seat.session.state.view met
    → seated c.answer.new.seat ≡ (seat.number, answered (session_of seat) cmd (answer (mail_of (map stored_of stored)) (state_of seat) cmd met seat.seen seat.live.mailbox c.mark_of-mark.result))) c.deref-2.ensures.value c.in_ok-answer.ensures.ok in
    (told_so k c.requires.kept s cmd at seat found there good c.in-Some-2.taken may c.mark_of-mark.result mark c.answer.new.seat answers c.stop_own.new.pending c.stop_own.ensures c.answer.ensures.live c.answer.ensures.abreast c.in_ok-answer.ensures.wrote).1
