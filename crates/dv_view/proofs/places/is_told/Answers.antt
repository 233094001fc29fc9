use Rattle.std.proofs.Common.{nat_eq, ◌≡◌, ◌∙◌, sym, ap, not, arith}
use Rattle.std.proofs.lemmas.Bool.Decides.{nat_tests}
use Rattle.std.proofs.lemmas.List.Quantifiers.{position-Some}
use Rattle.dv_model.specs.declared.types.Shown.{Shown}
use Rattle.dv_view.proofs.Finding.{any_by_place, same_at, same_none}
use Rattle.dv_view.proofs.places.is_told.Goals as goal

pub returns-in-Some : goal.returns-in-Some
returns-in-Some c =
    let rows = c.args.old.now in
    let s = c.args.s.now in
    let o = c.index-old-at.result in
    let at = position-Some (λ (t : Shown). nat_eq t.uid s.uid) rows c.in-Some.at o (sym c.place_of.ensures.is ∙ c.in-Some.is) in
    let uid : o.uid ≡ s.uid = ap (λ (t : Shown). t.uid) c.index-old-at.is ∙ grind (arith, nat_tests, at.1) in
    ap not (c.same_row.ensures ∙ sym (same_at rows s c.requires c.in-Some.at o at.0 c.index-old-at.is uid))

pub returns-in-None : goal.returns-in-None
returns-in-None c =
    let rows = c.args.old.now in
    let s = c.args.s.now in
    ap not (sym (same_none rows s (any_by_place (λ (t : Shown). nat_eq t.uid s.uid) rows _ (sym c.place_of.ensures.is ∙ c.in-None.is))))
