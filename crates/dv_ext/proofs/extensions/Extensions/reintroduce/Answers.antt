use Rattle.std.proofs.Common.{◌≡◌, ℕ, true, nat_eq, nat_lt, List, Some, refl, ap, sym, ◌∙◌, subst, arith}
use Rattle.std.proofs.lemmas.Bool.{eq-eqb}
use Rattle.std.proofs.lemmas.Bool.Decides.{nat_tests}
use Rattle.dv_model.specs.declared.types.Extension.{Extension}
use Rattle.dv_model.specs.Effects.{fit, grown_extension, with_item}
use Rattle.dv_ext.specs.Changes.{Keeps}
use Rattle.dv_ext.specs.Tables.{Table, IsTable}
use Rattle.dv_ext.proofs.Kept.{grown}
use Rattle.dv_ext.proofs.Doing.{reintroduced_does}
use Rattle.dv_ext.proofs.Validity.{grown_keeps}
use Rattle.dv_ext.proofs.extensions.Extensions.reintroduce.Goals as goal

pub invariant_of-self-2 : goal.invariant_of-self-2
invariant_of-self-2 c =
    let t : Table = record { extensions = c.self.inside.list; current = c.self.inside.current } in
    let fits : fit (with_item c.args.place (grown_extension c.args.intro.now) c.self.inside.list) ≡ true = ap (λ (list : List Extension). fit (with_item c.args.place (grown_extension c.args.intro.now) list)) (sym c.as_slice.ensures) ∙ sym c.fits_grown.ensures ∙ c.if-not-fits_grown.false in
    rw (c.in_ok-grow_at.ensures.ok) (grown t c.args.place c.get-known.result.now c.args.intro.now c.self.invariant c.get-known.ensures fits)

pub returns-clause-ok : goal.returns-clause-ok
returns-clause-ok c =
    let t : Table = record { extensions = c.self.inside.list; current = c.self.inside.current } in
    let e : Extension = c.get-known.result.now in
    let fits : fit (with_item c.args.place (grown_extension c.args.intro.now) c.self.inside.list) ≡ true = ap (λ (list : List Extension). fit (with_item c.args.place (grown_extension c.args.intro.now) list)) (sym c.as_slice.ensures) ∙ sym c.fits_grown.ensures ∙ c.if-not-fits_grown.false in
    let same : nat_eq e.reset_id c.args.intro.now.reset_id ≡ true = eq-eqb e.reset_id c.args.intro.now.reset_id c.if-known-intro.false in
    let made = c.in_ok-grow_at.ensures.ok in
    reintroduced_does t c.args.self.now c.args.place e c.args.intro.now c.grow_at.new.list (nat_lt e.record_size c.args.intro.now.record_size) c.grown.result c.self.view_is c.get-known.ensures same fits refl made c.grown.ensures

pub returns-clause-valid : goal.returns-clause-valid
returns-clause-valid c =
    let t : Table = record { extensions = c.self.inside.list; current = c.self.inside.current } in
    let fits : fit (with_item c.args.place (grown_extension c.args.intro.now) c.self.inside.list) ≡ true = ap (λ (list : List Extension). fit (with_item c.args.place (grown_extension c.args.intro.now) list)) (sym c.as_slice.ensures) ∙ sym c.fits_grown.ensures ∙ c.if-not-fits_grown.false in
    let after : Table = record { extensions = c.grow_at.new.list; current = Some (record { extension = c.args.place; size = c.args.intro.now.record_size }) } in
    let is : IsTable after = rw (c.in_ok-grow_at.ensures.ok) (grown t c.args.place c.get-known.result.now c.args.intro.now c.self.invariant c.get-known.ensures fits) in
    subst (λ (b : Table). Keeps b after c.grown.result) c.self.view_is (grown_keeps t after c.args.place c.get-known.result.now c.args.intro.now c.grown.result is c.get-known.ensures c.in_ok-grow_at.ensures.ok c.grown.ensures)
