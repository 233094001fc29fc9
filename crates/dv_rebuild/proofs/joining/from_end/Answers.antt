use Rattle.std.proofs.Common.{◌≡◌, ◌∙◌, refl, subst, sym}
use Rattle.std.specs.Prelude.{IfOk}
use Rattle.dv_openings.specs.Salvages.{Salvaged}
use Rattle.dv_chain.specs.Files.{good_file, snapshot_of}
use Rattle.dv_rebuild.specs.declared.salvage.Salvage.{Salvage}
use Rattle.dv_rebuild.specs.Walks.{salvaged_of}
use Rattle.dv_rebuild.proofs.Joins.{from_it_alone, from_named_end}
use Rattle.dv_rebuild.proofs.joining.from_end.Goals as goal

pub returns-then-not-is_before : goal.returns-then-not-is_before
returns-then-not-is_before c = λ spots before has none nowhere.
    subst (λ (x : Salvaged). IfOk c.snapshot_alone.result (λ (made : Salvage). salvaged_of made ≡ x))
    (from_it_alone (good_file c.args.log.now spots) (snapshot_of c.args.index) before _ none nowhere (sym c.is_before.ensures ∙ c.if-not-is_before.true) refl) c.snapshot_alone.ensures

pub returns : goal.returns
returns c = λ spots before has none nowhere.
    subst (λ (x : Salvaged). IfOk c.with_file.result (λ (made : Salvage). salvaged_of made ≡ x))
    (from_named_end (good_file c.args.log.now spots) (snapshot_of c.args.index) before _ c.number.result (salvaged_of c.in_ok-salvage.salvage) none nowhere (sym c.is_before.ensures ∙ c.if-not-is_before.false) c.in_ok-salvage.ensures c.number.ensures.is refl)
    (c.with_file.ensures spots has)
