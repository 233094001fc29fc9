use Rattle.std.proofs.Common.{◌≡◌, ◌≢◌, All, AllPairs, List, take, ap, sym, ◌∙◌, arith, rules, subst}
use Rattle.std.proofs.lemmas.Bool.{both_ways}
use Rattle.std.proofs.lemmas.List.{take_all}
use Rattle.dv_model.specs.declared.types.Extension.{Extension}
use Rattle.dv_index.proofs.Distinct.{one_more, doubled}
use Rattle.dv_index.proofs.reading.extensions.are_distinct.Goals as goal

pub returns-then-not-is_new : goal.returns-then-not-is_new
returns-then-not-is_new c =
    let front : take c.loop-at.at c.args.extensions.now ≡ c.split_at.result.0.now = sym c.split_at.ensures.front in
    let name : c.index-extensions-at.result.name ≡ c.as_slice.result.now = ap (λ (e : Extension). e.name) c.index-extensions-at.is ∙ sym c.as_slice.ensures in (
      λ t. search rules,
      λ pairs. absurd (doubled c.args.extensions.now c.loop-at.at c.index-extensions-at.result c.loop-at-test.true c.index-extensions-at.is
          (λ new. both_ways c.is_new.result c.if-not-is_new.true (c.is_new.ensures.1 (subst (λ n. All (λ (e : Extension). e.name ≢ n) c.split_at.result.0.now) name (subst (All (λ (e : Extension). e.name ≢ c.index-extensions-at.result.name)) front new)))) pairs),
    )

pub loop-at-preserved : goal.loop-at-preserved
loop-at-preserved c =
    let back : c.split_at.result.0.now ≡ take c.loop-at.at c.args.extensions.now = c.split_at.ensures.front in
    let name : c.as_slice.result.now ≡ c.index-extensions-at.result.name = c.as_slice.ensures ∙ ap (λ (e : Extension). e.name) (sym c.index-extensions-at.is) in
    let new : All (λ (e : Extension). e.name ≢ c.as_slice.result.now) c.split_at.result.0.now = c.is_new.ensures.0 c.if-not-is_new.false in
    one_more c.args.extensions.now c.loop-at.at c.index-extensions-at.result c.loop-at-test.true c.index-extensions-at.is c.loop-at.invariant
    (subst (All (λ (e : Extension). e.name ≢ c.index-extensions-at.result.name)) back (subst (λ n. All (λ (e : Extension). e.name ≢ n) c.split_at.result.0.now) name new))

pub returns : goal.returns
returns c =
    let all : AllPairs (λ (a b : Extension). a.name ≢ b.name) c.args.extensions.now =
    subst (λ (es : List Extension). AllPairs (λ (a b : Extension). a.name ≢ b.name) es) (take_all c.loop-at.at c.args.extensions.now (omega arith)) c.loop-at.invariant in
    (λ _. all, λ _. search rules)
