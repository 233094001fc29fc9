use Rattle.std.proofs.Common.{◌≡◌, ◌+◌, ◌++◌, ◌∷◌, [], List, rules, subst, sym, take}
use Rattle.std.specs.List.{AllZip}
use Rattle.std.proofs.lemmas.List.{take_more}
use Rattle.std.proofs.lemmas.List.Elements.{AllZip-push}
use Rattle.dv_model.specs.declared.types.Key.{Key}
use Rattle.dv_model.specs.declared.types.Key.TheVariants as key
use Rattle.dv_search.specs.Prepared.{IsPrepared}
use Rattle.dv_search.proofs.Ready.{prepared-And, prepared-Not, prepared-Or}
use Rattle.dv_search.proofs.prepared.+prepare.Goals as goal

pub prepared-returns-in_ok-new-in-Not : goal.prepared-returns-in_ok-new-in-Not
prepared-returns-in_ok-new-in-Not t c =
    let star = c.args.star in
    let inside = c.get.result.now in
    let is : c.args.key.now ≡ key.Not inside = search rules in
    subst (λ k. IsPrepared star k (key.Not c.in_ok-new-in-Not.field-0)) (sym is)
    (subst (λ m. IsPrepared star (key.Not inside) (key.Not m)) (sym c.in_ok-new-in-Not.ensures) (prepared-Not star inside c.in_ok-inside-in-Not.inside c.in_ok-inside-in-Not.ensures))

pub prepared-returns-in_ok-new-in-Or-2 : goal.prepared-returns-in_ok-new-in-Or-2
prepared-returns-in_ok-new-in-Or-2 t c =
    let star = c.args.star in
    let one = c.get-in-Or.result.now in
    let other = c.get-in-Or-2.result.now in
    let made = c.in_ok-one-in-Or.one in
    let more = c.in_ok-other-in-Or.other in
    let is : c.args.key.now ≡ key.Or one other = search rules in
    subst (λ k. IsPrepared star k (key.Or c.in_ok-new-in-Or.field-0 c.in_ok-new-in-Or-2.field-0)) (sym is)
    (subst (λ m. IsPrepared star (key.Or one other) (key.Or m c.in_ok-new-in-Or-2.field-0)) (sym c.in_ok-new-in-Or.ensures)
    (subst (λ m. IsPrepared star (key.Or one other) (key.Or made m)) (sym c.in_ok-new-in-Or-2.ensures)
    (prepared-Or star one other made more c.in_ok-one-in-Or.ensures c.in_ok-other-in-Or.ensures)))

pub prepared-returns-in_ok-prepared_all-in-And : goal.prepared-returns-in_ok-prepared_all-in-And
prepared-returns-in_ok-prepared_all-in-And t c =
    let is : c.args.key.now ≡ key.And c.in-And.keys = search rules in
    subst (λ k. IsPrepared c.args.star k (key.And c.in_ok-prepared_all-in-And.field-0)) (sym is)
    (prepared-And c.args.star c.in-And.keys c.in_ok-prepared_all-in-And.field-0 c.in_ok-prepared_all-in-And.ensures)

pub prepared_all-loop-key-preserved : goal.prepared_all-loop-key-preserved
prepared_all-loop-key-preserved t c =
    let star = c.args.star in
    let items = c.as_slice-key-items.result.now in
    let i = c.loop-key.key-index in
    let item = c.key-item.result in
    let taken : List Key = take i items in
    let pushed : List Key = c.loop-key.made ++ c.in_ok-prepared.field-0 ∷ [] in
    let more = AllZip-push (IsPrepared star) taken c.loop-key.made item c.in_ok-prepared.field-0 c.loop-key.invariant c.in_ok-prepared.ensures in
    subst (λ made. AllZip (IsPrepared star) (take (i + 1) items) made) (sym c.in_ok-push.ensures.ok)
    (subst (λ ks. AllZip (IsPrepared star) ks pushed) (sym (take_more items i item c.loop-key-test.true)) (subst (λ k. AllZip (IsPrepared star) (taken ++ k ∷ []) pushed) c.key-item.is more))
