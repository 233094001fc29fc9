use Rattle.std.proofs.Common.{◌≡◌, ◌++◌, [], ◌∷◌, true, List, Some, None, ap, sym, ◌∙◌, subst}
use Rattle.dv_model.specs.declared.types.Extension.{Extension}
use Rattle.dv_model.specs.Effects.{fit, introduced, may_be_added, new_extension}
use Rattle.dv_ext.specs.Changes.{Keeps}
use Rattle.dv_ext.specs.declared.change.PartsChange.TheVariants.{Added}
use Rattle.dv_ext.specs.Tables.{Table, IsTable}
use Rattle.dv_ext.proofs.Kept.{added}
use Rattle.dv_ext.proofs.Validity.{added_keeps}
use Rattle.dv_ext.proofs.extensions.Extensions.introduce.Goals as goal

pub invariant_of-self-2 : goal.invariant_of-self-2
invariant_of-self-2 c =
    let t : Table = record { extensions = c.self.inside.list; current = c.self.inside.current } in
    let new : introduced c.self.inside.list c.args.intro.now ≡ None = rw (← c.self.view_is) at c.requires in
    let may : may_be_added c.args.intro.now ≡ true = sym c.may_be_added.ensures ∙ c.if-not-may_be_added.false in
    let fits : fit (c.self.inside.list ++ new_extension c.args.intro.now ∷ []) ≡ true = ap (λ (list : List Extension). fit (list ++ new_extension c.args.intro.now ∷ [])) (sym c.as_slice.ensures) ∙ sym c.fits_added.ensures ∙ c.if-not-fits_added.false in
    let pushed = c.in_ok-push.ensures.ok in
    rw (pushed, c.in_ok-made.ensures, c.len-extension.ensures) (added t c.args.intro.now c.self.invariant new may fits)

pub returns-clause-valid : goal.returns-clause-valid
returns-clause-valid c =
    let t : Table = record { extensions = c.self.inside.list; current = c.self.inside.current } in
    let new : introduced c.self.inside.list c.args.intro.now ≡ None = rw (← c.self.view_is) at c.requires in
    let may : may_be_added c.args.intro.now ≡ true = sym c.may_be_added.ensures ∙ c.if-not-may_be_added.false in
    let fits : fit (c.self.inside.list ++ new_extension c.args.intro.now ∷ []) ≡ true = ap (λ (list : List Extension). fit (list ++ new_extension c.args.intro.now ∷ [])) (sym c.as_slice.ensures) ∙ sym c.fits_added.ensures ∙ c.if-not-fits_added.false in
    let after : Table = record { extensions = c.push.new.self; current = Some (record { extension = c.len-extension.result; size = c.args.intro.now.record_size }) } in
    let made : c.push.new.self ≡ c.self.inside.list ++ new_extension c.args.intro.now ∷ [] = c.in_ok-push.ensures.ok ∙ ap (λ (e : Extension). c.self.inside.list ++ e ∷ []) c.in_ok-made.ensures in
    let is : IsTable after = rw (made, c.len-extension.ensures) (added t c.args.intro.now c.self.invariant new may fits) in
    subst (λ (b : Table). Keeps b after (Added c.args.intro.now.record_size)) c.self.view_is (added_keeps t after c.args.intro.now is made)
