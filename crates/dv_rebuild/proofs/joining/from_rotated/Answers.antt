use Rattle.std.proofs.Common.{◌≡◌, subst}
use Rattle.std.specs.Prelude.{IfOk}
use Rattle.dv_openings.specs.Salvages.{Salvaged, with_file}
use Rattle.dv_chain.specs.Files.{good_file}
use Rattle.dv_rebuild.specs.declared.salvage.Salvage.{Salvage}
use Rattle.dv_rebuild.specs.Walks.{salvaged_of}
use Rattle.dv_rebuild.proofs.joining.from_rotated.Goals as goal

pub returns : goal.returns
returns c = λ spots others left has first there before.
    subst (λ (x : Salvaged). IfOk c.with_file.result (λ (made : Salvage). salvaged_of made ≡ with_file (good_file c.args.log.now spots) x)) (c.in_ok-salvage.ensures others left first there before) (c.with_file.ensures spots has)
