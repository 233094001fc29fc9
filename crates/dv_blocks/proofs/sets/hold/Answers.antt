use Rattle.std.proofs.Common.{◌≡◌, ◌∙◌, ◌+◌, inr, List, ap, arith, get_or, refl, set, subst, suc, sym}
use Rattle.std.proofs.lemmas.List.{with_items_is}
use Rattle.dv_blocks.specs.Shared.{IsFound, IsHeld, unheld}
use Rattle.dv_blocks.specs.declared.sets.Held.{Held}
use Rattle.dv_blocks.proofs.Sharing.{again, changed_set, held_at}
use Rattle.dv_blocks.proofs.sets.hold.Goals as goal

pub use_again-requires-clause-fits : goal.use_again-requires-clause-fits
use_again-requires-clause-fits c =
    let found : IsFound c.args.sets.now.items c.args.places.now c.in-Some.at = subst (λ (l : List Held). IsFound l c.args.places.now c.in-Some.at) c.deref.ensures.value c.in-Some.ensures.0 in
    let small = found.fits in
    let same : (get_or c.as_mut_slice.result.now c.in-Some.at unheld).uses ≡ (get_or c.args.sets.now.items c.in-Some.at unheld).uses =
    ap (λ (l : List Held). (get_or l c.in-Some.at unheld).uses) c.as_mut_slice.ensures.value in
    omega arith

pub returns-in-Some-clause-ok : goal.returns-in-Some-clause-ok
returns-in-Some-clause-ok c =
    let sets : List Held = c.args.sets.now.items in
    let at = c.in-Some.at in
    let h = again sets at in
    let found : IsFound sets c.args.places.now at = subst (λ (l : List Held). IsFound l c.args.places.now at) c.deref.ensures.value c.in-Some.ensures.0 in
    let next : at + 1 ≡ suc at = omega arith in
    let back = with_items_is c.args.sets.now c.use_again.new.sets (c.use_again.auto.sets ∙ c.as_mut_slice.ensures.len) in
    subst (λ (l : List Held). IsHeld sets l (at + 1) c.args.places.now) (sym (back ∙ c.use_again.ensures ∙ ap (λ (l : List Held). set l at (again l at)) c.as_mut_slice.ensures.value))
    (held_at sets (set sets at h) at (at + 1) h c.args.places.now (changed_set sets at h found.inside) found.same refl (inr refl) next)
