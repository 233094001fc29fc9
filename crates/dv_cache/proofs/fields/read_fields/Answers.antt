use Rattle.std.proofs.Common.{◌≡◌, ◌++◌, ◌∷◌, [], List, ℕ, arith, subst, rules}
use Rattle.std.specs.Borrow.{Bor}
use Rattle.std.specs.Option.{option_map}
use Rattle.dv_cache.proofs.FieldTexts.{is_done, no_field, one_more, starts, IsReadTo}
use Rattle.dv_cache.proofs.fields.read_fields.Goals as goal

pub loop-init : goal.loop-init
loop-init c = rw c.new-fields.ensures (starts c.args.b.now)

pub returns-in_default-clause-none : goal.returns-in_default-clause-none
returns-in_default-clause-none c = no_field c.args.b.now c.loop.fields c.loop.rest.now c.loop.counter c.loop.invariant (omega arith) c.in_default.ensures.none

pub loop-preserved : goal.loop-preserved
loop-preserved c =
    let pushed : c.push.new.self ≡ c.loop.fields ++ option_map (λ (v : Bor (List ℕ)). v.now) c.in-Some.value ∷ [] = search rules in
    rw pushed (one_more c.args.b.now c.loop.fields c.loop.rest.now c.loop.counter c.loop.invariant (option_map (λ (v : Bor (List ℕ)). v.now) c.in-Some.value) c.in-Some.behind.now c.in-Some.ensures.some.0 c.in-Some.ensures.some.1)

pub returns-clause-found : goal.returns-clause-found
returns-clause-found c =
    let end : c.loop.counter ≡ 5 = omega arith in
    is_done c.args.b.now c.loop.fields c.loop.rest.now (subst (λ k. IsReadTo c.args.b.now c.loop.fields c.loop.rest.now k) end c.loop.invariant)
