use Rattle.std.proofs.Common.{◌≡◌, ◌∙◌, ◌+◌, ◌<◌, ◌++◌, ◌∷◌, [], inl, List, ap, arith, get_or, length, refl, set, subst, suc, sym}
use Rattle.std.proofs.lemmas.List.{get_or_past, with_items_is}
use Rattle.std.proofs.lemmas.Result.{IfOk-weaker}
use Rattle.dv_blocks.specs.Shared.{IsHeld, unheld}
use Rattle.dv_blocks.specs.declared.sets.Held.{Held}
use Rattle.dv_blocks.proofs.Sharing.{changed_push, changed_set, held_at, one_use}
use Rattle.dv_blocks.proofs.sets.put_or_add.Goals as goal

pub returns-in-Some-clause-ok : goal.returns-in-Some-clause-ok
returns-in-Some-clause-ok c =
    let sets : List Held = c.args.sets.now.items in
    let at = c.in-Some.at in
    let h = one_use c.args.places in
    let value = c.deref.ensures.value in
    let inside = subst (λ (l : List Held). at < length l) value c.in-Some.ensures.0 in
    let none : (get_or sets at unheld).uses ≡ 0 = ap (λ (l : List Held). (get_or l at unheld).uses) (sym value) ∙ c.in-Some.ensures.2 in
    let next : at + 1 ≡ suc at = omega arith in
    let more : h.uses ≡ (get_or sets at unheld).uses + 1 = omega arith in
    let back = with_items_is c.args.sets.now c.put.new.sets (c.put.auto.sets ∙ c.as_mut_slice.ensures.len) in
    subst (λ (l : List Held). IsHeld sets l (at + 1) c.args.places) (sym (back ∙ c.put.ensures ∙ ap (λ (l : List Held). set l at h) c.as_mut_slice.ensures.value))
    (held_at sets (set sets at h) at (at + 1) h c.args.places (changed_set sets at h inside) refl more (inl none) next)

pub returns-in-None-clause-ok : goal.returns-in-None-clause-ok
returns-in-None-clause-ok c =
    let sets : List Held = c.args.sets.now.items in
    let h = one_use c.args.places in
    let past : get_or sets (length sets) unheld ≡ unheld = get_or_past sets (length sets) unheld (omega arith) in
    let none : (get_or sets (length sets) unheld).uses ≡ 0 = ap (λ (s : Held). s.uses) past in
    let more : h.uses ≡ (get_or sets (length sets) unheld).uses + 1 = omega arith in
    IfOk-weaker c.add.result _ _ (λ n is.
    let next : n ≡ suc (length sets) = is.0 ∙ omega arith in
    subst (λ (l : List Held). IsHeld sets l n c.args.places) (sym is.1) (held_at sets (sets ++ h ∷ []) (length sets) n h c.args.places (changed_push sets h) refl more (inl none) next))
    c.add.ensures.ok
