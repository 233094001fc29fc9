use Rattle.std.proofs.Common.{Ok, ap, sym, subst}
use Rattle.dv_formats.specs.Scripts.{IsSet}
use Rattle.dv_sets.proofs.Reading.{IsReadTo, bad_cut, last_one, one_more, set_is_one}
use Rattle.dv_sets.proofs.sets.parse_set.Goals as goal

pub returns-in_default-clause-bad : goal.returns-in_default-clause-bad
returns-in_default-clause-bad c =
    bad_cut c.args.b.now c.pieces.set c.pieces.text.now c.cut.result.0.now c.cut.result.1 c.pieces.invariant c.cut.ensures.front c.cut.ensures.parts c.in_default.ensures.none

pub returns-in_default-clause-only : goal.returns-in_default-clause-only
returns-in_default-clause-only c = λ set is.
    absurd (bad_cut c.args.b.now c.pieces.set c.pieces.text.now c.cut.result.0.now c.cut.result.1 c.pieces.invariant c.cut.ensures.front c.cut.ensures.parts c.in_default.ensures.none set is)

pub returns-in_default-behind-clause-found : goal.returns-in_default-behind-clause-found
returns-in_default-behind-clause-found c =
    let parts = rw c.in_default-behind.is at c.cut.ensures.parts in
    subst (λ set. IsSet set c.args.b.now) (sym c.in_ok-push.ensures.ok) (last_one c.args.b.now c.pieces.set c.pieces.text.now c.cut.result.0.now c.in-Some.span c.pieces.invariant c.cut.ensures.front parts c.in-Some.ensures.some)

pub returns-in_default-behind-clause-only : goal.returns-in_default-behind-clause-only
returns-in_default-behind-clause-only c = λ set is.
    let parts = rw c.in_default-behind.is at c.cut.ensures.parts in
    let read : IsSet c.push.new.self c.args.b.now =
    subst (λ set. IsSet set c.args.b.now) (sym c.in_ok-push.ensures.ok) (last_one c.args.b.now c.pieces.set c.pieces.text.now c.cut.result.0.now c.in-Some.span c.pieces.invariant c.cut.ensures.front parts c.in-Some.ensures.some) in
    ap Ok (set_is_one c.push.new.self set c.args.b.now read is)

pub returns-in_default-behind-clause-every : goal.returns-in_default-behind-clause-every
returns-in_default-behind-clause-every c = λ none.
    let parts = rw c.in_default-behind.is at c.cut.ensures.parts in
    absurd (none c.push.new.self (subst (λ set. IsSet set c.args.b.now) (sym c.in_ok-push.ensures.ok) (last_one c.args.b.now c.pieces.set c.pieces.text.now c.cut.result.0.now c.in-Some.span c.pieces.invariant c.cut.ensures.front parts c.in-Some.ensures.some)))

pub pieces-preserved : goal.pieces-preserved
pieces-preserved c =
    let parts = rw c.in-Some-behind.is at c.cut.ensures.parts in
    subst (λ set. IsReadTo c.args.b.now set c.in-Some-behind.rest.now) (sym c.in_ok-push.ensures.ok) (one_more c.args.b.now c.pieces.set c.pieces.text.now c.cut.result.0.now c.in-Some-behind.rest.now c.in-Some.span c.pieces.invariant c.cut.ensures.front parts c.in-Some.ensures.some)
