use Rattle.std.proofs.Common.{◌≡◌, refl, subst}
use Rattle.std.specs.Prelude.{IfOk}
use Rattle.dv_openings.specs.Salvages.{Salvaged}
use Rattle.dv_chain.specs.Files.{good_file}
use Rattle.dv_rebuild.specs.declared.salvage.Salvage.{Salvage}
use Rattle.dv_rebuild.specs.Walks.{salvaged_of}
use Rattle.dv_rebuild.proofs.Joins.{anew_alone, anew_first, anew_none}
use Rattle.dv_rebuild.proofs.joining.from_nothing.Goals as goal

pub returns-then-log-ne2 : goal.returns-then-log-ne2
returns-then-log-ne2 c = λ spots before has file.
    subst (λ (x : Salvaged). IfOk c.with_file.result (λ (made : Salvage). salvaged_of made ≡ x))
    (anew_alone (good_file c.args.log.now spots) before (salvaged_of c.nothing-salvage.result) _ c.if-log-ne2.true c.nothing-salvage.ensures refl) (c.with_file.ensures spots has)

pub returns-in_ok-salvage-in-Some : goal.returns-in_ok-salvage-in-Some
returns-in_ok-salvage-in-Some c = λ spots before has file.
    let first = rw c.in-Some.is at file in
    subst (λ (x : Salvaged). IfOk c.with_file-in-Some-2.result (λ (made : Salvage). salvaged_of made ≡ x))
    (anew_first (good_file c.args.log.now spots) (good_file c.in-Some.first first.0) before (salvaged_of c.nothing-salvage.result) (salvaged_of c.in_ok-salvage-in-Some.salvage) _ first.2 c.if-log-ne2.false c.nothing-salvage.ensures
    (c.in_ok-salvage-in-Some.ensures first.0 first.1) refl)
    (c.with_file-in-Some-2.ensures spots has)

pub returns-in-None : goal.returns-in-None
returns-in-None c = λ spots before has file.
    subst (λ (x : Salvaged). IfOk c.with_file-in-None.result (λ (made : Salvage). salvaged_of made ≡ x))
    (anew_none (good_file c.args.log.now spots) before (salvaged_of c.nothing-salvage.result) _ (rw c.in-None.is at file) c.nothing-salvage.ensures refl) (c.with_file-in-None.ensures spots has)
