use Rattle.std.proofs.Common.{◌≡◌, true, false, [], ◌∷◌, ◌++◌, drop, Ok, arith, ap, rules, subst, sym, ◌∙◌}
use Rattle.std.specs.Prelude.{is_some}
use Rattle.dv_model.specs.Effects.{place_of}
use Rattle.dv_keywords.specs.Finding.{FindsAll}
use Rattle.dv_keywords.specs.Tables.{IsNameAt, IsTableAt}
use Rattle.dv_keywords.proofs.Finding.{finds_more}
use Rattle.dv_keywords.proofs.Readings.{IsReadTo, doubled, is_done, no_name, none_of, one_more, one_table}
use Rattle.dv_keywords.proofs.Shown.{all_shown}
use Rattle.dv_keywords.proofs.table.Table.from_bytes.Goals as goal

pub returns-in_default-clause-bad : goal.returns-in_default-clause-bad
returns-in_default-clause-bad c =
    no_name c.args.count c.args.b.now c.loop-place.names.items c.loop-place.at c.loop-place.place c.loop-place.invariant.0 (omega arith) (λ name rest is e. c.in_default.ensures.none name rest is (c.split_at.ensures.back ∙ e))

pub returns-in_default-clause-only : goal.returns-in_default-clause-only
returns-in_default-clause-only c = λ names n is. absurd (no_name c.args.count c.args.b.now c.loop-place.names.items c.loop-place.at c.loop-place.place c.loop-place.invariant.0 (omega arith) (λ name rest is e. c.in_default.ensures.none name rest is (c.split_at.ensures.back ∙ e)) names n is)

pub returns-then-is_some-clause-bad : goal.returns-then-is_some-clause-bad
returns-then-is_some-clause-bad c =
    let names = c.loop-place.names.items in
    let name = c.in-Some.name.now in
    let found : IsNameAt (drop c.loop-place.at c.args.b.now) name = subst (λ t. IsNameAt t name) c.split_at.ensures.back c.in-Some.ensures.some in
    let known : is_some (place_of names name) ≡ true = ap is_some (sym (c.loop-place.invariant.1 name) ∙ sym c.in_ok-insert.ensures.old) ∙ sym c.is_some.ensures ∙ c.if-is_some.true in
    doubled c.args.count c.args.b.now names c.loop-place.at c.loop-place.place c.loop-place.invariant.0 (omega arith) name found known

pub returns-then-is_some-clause-only : goal.returns-then-is_some-clause-only
returns-then-is_some-clause-only c =
    let names = c.loop-place.names.items in
    let name = c.in-Some.name.now in
    let found : IsNameAt (drop c.loop-place.at c.args.b.now) name = subst (λ t. IsNameAt t name) c.split_at.ensures.back c.in-Some.ensures.some in
    let known : is_some (place_of names name) ≡ true = ap is_some (sym (c.loop-place.invariant.1 name) ∙ sym c.in_ok-insert.ensures.old) ∙ sym c.is_some.ensures ∙ c.if-is_some.true in
    λ others n is. absurd (doubled c.args.count c.args.b.now names c.loop-place.at c.loop-place.place c.loop-place.invariant.0 (omega arith) name found known others n is)

pub loop-place-preserved : goal.loop-place-preserved
loop-place-preserved c =
    let names = c.loop-place.names.items in
    let name = c.in-Some.name.now in
    let found : IsNameAt (drop c.loop-place.at c.args.b.now) name = subst (λ t. IsNameAt t name) c.split_at.ensures.back c.in-Some.ensures.some in
    let new : is_some (place_of names name) ≡ false = ap is_some (sym (c.loop-place.invariant.1 name) ∙ sym c.in_ok-insert.ensures.old) ∙ sym c.is_some.ensures ∙ c.if-is_some.false in
    let pushed : c.push.new.self.items ≡ names ++ name ∷ [] = search rules in (
      rw (pushed, c.size_of.ensures) (one_more c.args.b.now names c.loop-place.at c.loop-place.place c.loop-place.invariant.0 name found new),
      subst (FindsAll c.insert.new.self.map) (sym pushed) (finds_more names name c.loop-place.place c.loop-place.index.map c.insert.new.self.map (none_of (place_of names name) new) (sym c.loop-place.invariant.0.counted) c.loop-place.invariant.1 c.in_ok-insert.ensures.ok),
    )

pub returns-clause-only : goal.returns-clause-only
returns-clause-only c = λ names n is.
    let read = c.loop-place.names.items in
    let end : c.loop-place.place ≡ c.args.count = omega arith in
    let here : IsTableAt c.args.count read c.loop-place.at c.args.b.now = is_done c.args.count c.args.b.now read c.loop-place.at (omega arith) (subst (λ k. IsReadTo c.args.b.now read c.loop-place.at k) end c.loop-place.invariant.0) in
    let same = one_table c.args.count read names c.loop-place.at n c.args.b.now here is in
    let all = all_shown read names c.args.count (omega (arith, here.counted)) same.0 in
    λ i. Ok (all i, same.1 i)
