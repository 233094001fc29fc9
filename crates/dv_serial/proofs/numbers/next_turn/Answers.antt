-- The session of the line is found among those seen, or added to them.
use Rattle.std.proofs.Common.{ℕ, ◌+◌, ap, sym, ◌∙◌, arith, refl}
use Rattle.std.specs.Prelude.{bytes_eq, position}
use Rattle.dv_serial.specs.declared.numbers.Seen.{Seen}
use Rattle.dv_serial.proofs.Numbering.{absent_seen, absent_turn, found, known_count, known_seen, known_turn, lacking, set_there}
use Rattle.dv_serial.proofs.numbers.next_turn.Goals as goal

pub overflow_add-index_mut : goal.overflow_add-index_mut
overflow_add-index_mut c =
    let d = c.index_mut.result.now in
    let is = found c.args.seen.now.items c.args.name.now c.in-Some.at d (sym (ap (position (λ (s : Seen). bytes_eq c.args.name.now s.name)) c.deref.ensures.value) ∙ sym c.place_of.ensures ∙ c.in-Some.is) in
    let count = known_count c.args.seen.now.items c.args.name.now c.in-Some.at d is in
    omega (arith, count, ap (λ (s : Seen). s.commands) c.index_mut.ensures.value, c.requires.commands)

pub returns-in-Some-clause-turn : goal.returns-in-Some-clause-turn
returns-in-Some-clause-turn c = λ before line so_far.
    let d = c.index_mut.result.now in
    let is = found c.args.seen.now.items c.args.name.now c.in-Some.at d (sym (ap (position (λ (s : Seen). bytes_eq c.args.name.now s.name)) c.deref.ensures.value) ∙ sym c.place_of.ensures ∙ c.in-Some.is) in
    let new : Seen = record { name = d.name; commands = d.commands + 1 } in
    let there = set_there c.args.seen.now.items c.args.name.now c.in-Some.at new c.index.result.now is in
    let one = ap (λ (s : Seen). s.commands) (c.index.ensures ∙ there) ∙ ap (λ (s : Seen). s.commands + 1) c.index_mut.ensures.value in
    known_turn before c.args.seen.now.items c.args.name.now line c.in-Some.at c.index.result.now.commands d so_far is one

pub returns-in-Some-clause-seen : goal.returns-in-Some-clause-seen
returns-in-Some-clause-seen c = λ before line so_far.
    let d = c.index_mut.result.now in
    let is = found c.args.seen.now.items c.args.name.now c.in-Some.at d (sym (ap (position (λ (s : Seen). bytes_eq c.args.name.now s.name)) c.deref.ensures.value) ∙ sym c.place_of.ensures ∙ c.in-Some.is) in
    let new : Seen = record { name = d.name; commands = d.commands + 1 } in
    known_seen before c.args.seen.now.items c.args.name.now line c.in-Some.at d new so_far is
    (ap (λ (s : Seen). s.name) c.index_mut.ensures.value) (ap (λ (s : Seen). s.commands + 1) c.index_mut.ensures.value)

pub returns-in_ok-push-in-None-clause-turn : goal.returns-in_ok-push-in-None-clause-turn
returns-in_ok-push-in-None-clause-turn c = λ before line so_far.
    let new : Seen = record { name = c.args.name.now; commands = 1 } in
    let none = lacking c.args.seen.now.items c.args.name.now new (sym (ap (position (λ (s : Seen). bytes_eq c.args.name.now s.name)) c.deref.ensures.value) ∙ sym c.place_of.ensures ∙ c.in-None.is) in
    absent_turn before c.args.seen.now.items c.args.name.now line c.len.result so_far none (c.len.ensures ∙ c.in_ok-push-in-None.ensures.len ∙ ap (λ (n : ℕ). n + 1) c.args.seen.now.ok.0)

pub returns-in_ok-push-in-None-clause-seen : goal.returns-in_ok-push-in-None-clause-seen
returns-in_ok-push-in-None-clause-seen c = λ before line so_far.
    let new : Seen = record { name = c.args.name.now; commands = 1 } in
    let none = lacking c.args.seen.now.items c.args.name.now new (sym (ap (position (λ (s : Seen). bytes_eq c.args.name.now s.name)) c.deref.ensures.value) ∙ sym c.place_of.ensures ∙ c.in-None.is) in
    rw (c.in_ok-push-in-None.ensures.items, c.in_ok-name-in-None.ensures) (absent_seen before c.args.seen.now.items new line so_far none refl)
