use Rattle.std.proofs.Common.{◌≡◌, true, nat_eq, List, Some, ap, sym, ◌∙◌, subst, rules, slice_get, length, ◌<◌, get_or}
use Rattle.std.proofs.lemmas.Bool.{eq-eqb}
use Rattle.std.proofs.lemmas.Option.{slice_get-get_or}
use Rattle.dv_model.specs.declared.types.Extension.{Extension}
use Rattle.dv_model.specs.Effects.{fit, grown_extension, introduced, with_intro, with_item}
use Rattle.dv_ext.specs.declared.change.PartsChange.TheVariants.{Same}
use Rattle.dv_ext.specs.Changes.{Does}
use Rattle.dv_ext.specs.Tables.{Table}
use Rattle.dv_ext.proofs.Quieting.{quiet_does}
use Rattle.dv_ext.proofs.extensions.Extensions.make_current.Goals as goal

pub returns-clause-does : goal.returns-clause-does
returns-clause-does c =
    let t : Table = c.args.self.now in
    let list : List Extension = c.as_slice-list.result.now in
    let same : c.self.inside.list ≡ t.extensions = ap (λ (x : Table). x.extensions) c.self.view_is in
    let is : list ≡ t.extensions = c.as_slice-list.ensures ∙ same in
    let place : introduced t.extensions c.args.intro.now ≡ Some c.in-Some.place = ap (λ l. introduced l c.args.intro.now) (sym is) ∙ sym c.place_of.ensures ∙ c.in-Some.is in
    let e : Extension = get_or list c.in-Some.place c.index-list-place.result in
    let inside : c.in-Some.place < length list = search rules in
    let there : slice_get t.extensions c.in-Some.place ≡ Some e = ap (λ l. slice_get l c.in-Some.place) (sym is) ∙ slice_get-get_or list c.in-Some.place c.index-list-place.result inside in
    let fits : fit (with_item c.in-Some.place (grown_extension c.args.intro.now) t.extensions) ≡ true =
    ap (λ l. fit (with_item c.in-Some.place (grown_extension c.args.intro.now) l)) (sym is) ∙ sym c.fits_grown.ensures ∙ c.if-not-fits_grown.false in
    let id : nat_eq e.reset_id c.args.intro.now.reset_id ≡ true = eq-eqb e.reset_id c.args.intro.now.reset_id c.if-list-place.false in
    subst (λ (l : List Extension). Does (λ m. with_intro m c.args.intro.now) t (record { extensions = l; current = Some (record { extension = c.in-Some.place; size = c.args.intro.now.record_size }) }) Same) (sym same)
    (quiet_does t c.in-Some.place e c.args.intro.now place there id fits c.requires)
