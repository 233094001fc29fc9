use Rattle.std.proofs.Common.{◌∙◌, List, ℕ, ap, refl, subst}
use Rattle.std.specs.List.{list_any}
use Rattle.dv_shelf.specs.Folders.{Folder}
use Rattle.dv_rebuild.specs.Mails.{AreNumbersOf, IsSifted, is_cache}
use Rattle.dv_rebuild.specs.Plans.{Plans}
use Rattle.dv_rebuild.proofs.Plans.{prepared, too_long}
use Rattle.dv_rebuild.proofs.rebuilding.prepare.Goals as goal

pub returns-in_default-planned-clause-prepared : goal.returns-in_default-planned-clause-prepared
returns-in_default-planned-clause-prepared g c = λ tells.
    let S = g.S.Shelf in
    let old = S.sees.files c.args.shelf.now in
    let numbers = c.in-Ok.numbers in
    let sifted = c.in_ok-sifted.sifted in
    let texts = c.in_ok-texts.texts in
    let looks = c.in_ok-texts.ensures.looks tells in
    let are = subst (λ l. AreNumbersOf l numbers) c.as_slice.ensures c.in-Ok.ensures in
    let sifts = subst (λ (l : List ℕ). IsSifted old l sifted) c.as_slice-3.ensures (subst (λ (f : Folder). IsSifted f c.as_slice-3.result.now sifted) looks.same (c.in_ok-sifted.ensures.sifted tells)) in
    let plan = subst (Plans texts sifted.kept c.args.now) c.in_default-planned.is (subst (λ (l : List ℕ). Plans texts l c.args.now c.in-Ok-plan.planned) c.as_slice-4.ensures c.in-Ok-plan.ensures) in
    too_long old c.args.now texts numbers sifted (c.in_ok-texts.ensures.read tells) are sifts plan

pub returns-clause-prepared : goal.returns-clause-prepared
returns-clause-prepared g c = λ tells.
    let S = g.S.Shelf in
    let old = S.sees.files c.args.shelf.now in
    let texts = c.in_ok-texts.texts in
    let numbers = c.in-Ok.numbers in
    let sifted = c.in_ok-sifted.sifted in
    let log = c.in-Some.log in
    let looks = c.in_ok-texts.ensures.looks tells in
    let are = subst (λ l. AreNumbersOf l numbers) c.as_slice.ensures c.in-Ok.ensures in
    let sifts = subst (λ (l : List ℕ). IsSifted old l sifted) c.as_slice-3.ensures (subst (λ (f : Folder). IsSifted f c.as_slice-3.result.now sifted) looks.same (c.in_ok-sifted.ensures.sifted tells)) in
    let plan = subst (Plans texts sifted.kept c.args.now) c.in-Some.is (subst (λ (l : List ℕ). Plans texts l c.args.now c.in-Ok-plan.planned) c.as_slice-4.ensures c.in-Ok-plan.ensures) in
    let kept = c.in-Ok-try_from.ensures.1 ∙ c.len.ensures in
    let cache = c.has_cache-has_cache.ensures ∙ ap (list_any is_cache) c.as_slice-2.ensures in
    prepared old c.args.now texts numbers sifted log (record { kept = c.in-Ok-try_from.kept; skipped = sifted.skipped; indexid = log.indexid; report = record { remains = log.remains; skips = sifted.skips; has_cache = c.has_cache-has_cache.result } }) (c.in_ok-texts.ensures.read tells) are sifts plan kept refl refl refl refl cache
