use Rattle.std.proofs.Common.{rules, ◌≡◌, ◌∙◌, ℕ, List, None, Some, ap, arith, drop, length, subst, sym, take}
use Rattle.std.specs.Prelude.{option_map, position, slice_get}
use Rattle.std.proofs.lemmas.Option.{same_Some}
use Rattle.dv_world.specs.declared.kept.Seat.{Seat}
use Rattle.dv_interleavings.specs.Worlds.{loaded_number}
use Rattle.dv_world.specs.Keeping.{AreLogged, kept_log}
use Rattle.dv_world.specs.Shapes.{wrote_of}
use Rattle.dv_world.proofs.Entries.{kept_between}
use Rattle.dv_world.proofs.Found.{is_of, there_is}
use Rattle.dv_world.proofs.Loads.{from_seen, here, kept_so, loaded_so, loads_nobody, number, on_err, plain_so}
use Rattle.dv_world.proofs.loading.load.Goals as goal

pub returns-in_default-clause-ok : goal.returns-in_default-clause-ok
returns-in_default-clause-ok c =
    let none : c.place_of.result ≡ None = search rules in
    loads_nobody c.args.kept.now c.args.number (ap (position (is_of c.args.number)) (sym c.deref.ensures.value) ∙ sym c.place_of.ensures ∙ none)

pub split_at-requires-2 : goal.split_at-requires-2
split_at-requires-2 c =
    let k = c.args.kept.now in
    let seats = k.seats.items in
    let at = c.in-Some.at in
    let found : position (is_of c.args.number) seats ≡ Some at = ap (position (is_of c.args.number)) (sym c.deref.ensures.value) ∙ sym c.place_of.ensures ∙ c.in-Some.is in
    let first = c.index.result.now in
    let second = c.index-2.result.now in
    let there : slice_get seats at ≡ Some first = there_is seats c.args.number at first found c.index.ensures in
    let again : slice_get seats at ≡ Some second = there_is seats c.args.number at second found c.index-2.ensures in
    let same : second.seen ≡ first.seen = ap (λ (x : Seat). x.seen) (same_Some second first (sym again ∙ there)) in
    let low = from_seen k c.requires c.args.number at first found there in
    omega (arith, same, low, c.number_of-seen.ensures, c.split_at.ensures.front_len)

pub see-requires : goal.see-requires
see-requires c =
    let k = c.args.kept.now in
    let seats = k.seats.items in
    let at = c.in-Some.at in
    let found : position (is_of c.args.number) seats ≡ Some at = ap (position (is_of c.args.number)) (sym c.deref.ensures.value) ∙ sym c.place_of.ensures ∙ c.in-Some.is in
    let second = c.index-2.result.now in
    let seat = c.index_mut-seat.result.now in
    let again : slice_get seats at ≡ Some second = there_is seats c.args.number at second found c.index-2.ensures in
    let there : slice_get seats at ≡ Some seat = there_is seats c.args.number at seat found c.index_mut-seat.ensures.value in
    let same : second.seen ≡ seat.seen = ap (λ (x : Seat). x.seen) (same_Some second seat (sym again ∙ there)) in
    let between : c.split_at-2.result.1.now ≡ drop seat.seen (take c.number_of-seen.result k.logged.items) =
    c.split_at-2.ensures.back ∙ ap (drop second.seen) (c.split_at.ensures.front ∙ ap (take c.number_of-seen.result) c.deref-2.ensures.value)
    ∙ ap (λ (n : ℕ). drop n (take c.number_of-seen.result k.logged.items)) same in (
      kept_log k,
      c.requires.stands.sound,
      here k c.requires c.args.number at seat found there,
      subst (AreLogged (kept_log k) seat.seen) (sym between) (kept_between k c.requires seat.seen c.number_of-seen.result),
    )

pub returns-in_err-see-clause-kept : goal.returns-in_err-see-clause-kept
returns-in_err-see-clause-kept c =
    let k = c.args.kept.now in
    let seats = k.seats.items in
    let s = c.args.number in
    let at = c.in-Some.at in
    let found : position (is_of s) seats ≡ Some at = ap (position (is_of s)) (sym c.deref.ensures.value) ∙ sym c.place_of.ensures ∙ c.in-Some.is in
    let seat = c.index_mut-seat.result.now in
    let there : slice_get seats at ≡ Some seat = there_is seats s at seat found c.index_mut-seat.ensures.value in
    kept_so k c.requires at seat there c.see.new.seat c.see.ensures.same c.in_err-see.ensures.err.0 c.in_err-see.ensures.err.1 c.see.ensures.wrote

pub returns-in_err-see-clause-err : goal.returns-in_err-see-clause-err
returns-in_err-see-clause-err c =
    let k = c.args.kept.now in
    let seats = k.seats.items in
    let s = c.args.number in
    let at = c.in-Some.at in
    let found : position (is_of s) seats ≡ Some at = ap (position (is_of s)) (sym c.deref.ensures.value) ∙ sym c.place_of.ensures ∙ c.in-Some.is in
    let seat = c.index_mut-seat.result.now in
    let there : slice_get seats at ≡ Some seat = there_is seats s at seat found c.index_mut-seat.ensures.value in
    on_err c.from_residual.result (plain_so k c.requires at seat there c.see.new.seat c.see.ensures.same)

pub returns-clause-ok : goal.returns-clause-ok
returns-clause-ok c =
    let k = c.args.kept.now in
    let seats = k.seats.items in
    let s = c.args.number in
    let at = c.in-Some.at in
    let found : position (is_of s) seats ≡ Some at = ap (position (is_of s)) (sym c.deref.ensures.value) ∙ sym c.place_of.ensures ∙ c.in-Some.is in
    let seat = c.index_mut-seat.result.now in
    let there : slice_get seats at ≡ Some seat = there_is seats s at seat found c.index_mut-seat.ensures.value in
    let first = c.index.result.now in
    let second = c.index-2.result.now in
    let seen = c.number_of-seen.result in
    let one : first ≡ seat = same_Some first seat (sym (there_is seats s at first found c.index.ensures) ∙ there) in
    let other : second ≡ seat = same_Some second seat (sym (there_is seats s at second found c.index-2.ensures) ∙ there) in
    let seen_is : seen ≡ number k c.requires s at seat found there = c.number_of-seen.ensures ∙ ap (λ (x : Seat). loaded_number k.published (option_map wrote_of x.wrote)) one in
    let between : c.split_at-2.result.1.now ≡ drop seat.seen (take seen k.logged.items) =
    c.split_at-2.ensures.back ∙ ap (drop second.seen) (c.split_at.ensures.front ∙ ap (take seen) c.deref-2.ensures.value) ∙ ap (λ (x : Seat). drop x.seen (take seen k.logged.items)) other in
    let logged = subst (AreLogged (kept_log k) seat.seen) (sym between) (kept_between k c.requires seat.seen seen) in
    let live = c.in_ok-see.ensures.live (kept_log k) c.requires.stands.sound (here k c.requires s at seat found there) logged in
    (loaded_so k c.requires s at seat found there seen seen_is c.split_at-2.result.1.now between c.see.new.seat c.see.ensures.same c.see.ensures.wrote live).0

pub returns-clause-kept : goal.returns-clause-kept
returns-clause-kept c =
    let k = c.args.kept.now in
    let seats = k.seats.items in
    let s = c.args.number in
    let at = c.in-Some.at in
    let found : position (is_of s) seats ≡ Some at = ap (position (is_of s)) (sym c.deref.ensures.value) ∙ sym c.place_of.ensures ∙ c.in-Some.is in
    let seat = c.index_mut-seat.result.now in
    let there : slice_get seats at ≡ Some seat = there_is seats s at seat found c.index_mut-seat.ensures.value in
    let first = c.index.result.now in
    let second = c.index-2.result.now in
    let seen = c.number_of-seen.result in
    let one : first ≡ seat = same_Some first seat (sym (there_is seats s at first found c.index.ensures) ∙ there) in
    let other : second ≡ seat = same_Some second seat (sym (there_is seats s at second found c.index-2.ensures) ∙ there) in
    let seen_is : seen ≡ number k c.requires s at seat found there = c.number_of-seen.ensures ∙ ap (λ (x : Seat). loaded_number k.published (option_map wrote_of x.wrote)) one in
    let between : c.split_at-2.result.1.now ≡ drop seat.seen (take seen k.logged.items) =
    c.split_at-2.ensures.back ∙ ap (drop second.seen) (c.split_at.ensures.front ∙ ap (take seen) c.deref-2.ensures.value) ∙ ap (λ (x : Seat). drop x.seen (take seen k.logged.items)) other in
    let logged = subst (AreLogged (kept_log k) seat.seen) (sym between) (kept_between k c.requires seat.seen seen) in
    let live = c.in_ok-see.ensures.live (kept_log k) c.requires.stands.sound (here k c.requires s at seat found there) logged in
    (loaded_so k c.requires s at seat found there seen seen_is c.split_at-2.result.1.now between c.see.new.seat c.see.ensures.same c.see.ensures.wrote live).1
