use Rattle.std.proofs.Common.{◌≡◌, ◌≤◌, ℕ, List, Option, Vec, Global, ◌∙◌, ap, length, refl, subst, sym}
use Rattle.std.specs.Prelude.{IfSome, IsNone}
use Rattle.dv_model.specs.declared.types.Pair.{Pair}
use Rattle.dv_model.specs.Effects.{is_in_pairs}
use Rattle.dv_ranges.specs.Ranges.{ArePairsApart}
use Rattle.dv_qresync.proofs.Gathered.{few_apart, joined_within}
use Rattle.dv_qresync.proofs.ranges.known_pairs.Goals as goal

pub returns-in-Some-clause-within : goal.returns-in-Some-clause-within
returns-in-Some-clause-within c =
    let apart : ArePairsApart c.in-Some.joined.items = subst (λ (o : Option (Vec Pair Global)). IfSome o (λ made. ArePairsApart made.items)) c.in-Some.is c.in_ok-joined.ensures.apart in
    let same : (n : ℕ) → is_in_pairs c.in-Some.joined.items n ≡ is_in_pairs c.deref.result.now n =
    subst (λ (o : Option (Vec Pair Global)). IfSome o (λ made. (n : ℕ) → is_in_pairs made.items n ≡ is_in_pairs c.deref.result.now n)) c.in-Some.is c.in_ok-joined.ensures.same in
    joined_within c.args.star c.in_ok-pairs.pairs.items c.in-Some.joined.items c.in_ok-pairs.ensures.within apart (λ n. same n ∙ ap (λ (ps : List Pair). is_in_pairs ps n) c.deref.ensures.value)

pub returns-in-None-clause-apart : goal.returns-in-None-clause-apart
returns-in-None-clause-apart c =
    let few : length c.deref.result.now ≤ 1 = c.in_ok-joined.ensures.none.0 (subst (λ (o : Option (Vec Pair Global)). IsNone o) (sym c.in-None.is) refl) in
    few_apart c.args.star c.in_ok-pairs.pairs.items c.in_ok-pairs.ensures.within (subst (λ (ps : List Pair). length ps ≤ 1) c.deref.ensures.value few)
